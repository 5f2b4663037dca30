use Rattle.std.proofs.Common.{[], sym, refl, subst}
use Rattle.pipe_session.specs.Turns.{IsAtEnd, IsWithin, TellsNow, no_deeds}
use Rattle.pipe_session.proofs.Texts.{sent_no_more}
use Rattle.pipe_session.proofs.Ending.{took_nothing}
use Rattle.pipe_session.proofs.session.fresh_sessions_have_done_nothing.Goals as goal

pub returns : goal.returns
returns g c = λ now at fresh. record {
  took = took_nothing now.outside.incoming.left;
  no_fault = refl;
  number = sym fresh.nothing_taken;
  within = subst (λ p. IsWithin p at no_deeds) (sym fresh.going)
      (record { tail = []; spans = sym fresh.nothing_ahead; stands = fresh.unread.stands; none_final = tt });
  at_end = subst (λ p. IsAtEnd p now.outside.incoming []) (sym fresh.going) tt;
  tells = subst (λ p. TellsNow p at.run [] [] []) (sym fresh.going) ([], [], refl, (refl, refl), (fresh.not_in_run, refl));
  served = refl;
  seconds = refl;
  parts = sym fresh.nothing_owed;
  sent = sym (sent_no_more now.outside.out);
}
