use Rattle.std.proofs.Common.{◌≡◌, ◌∙◌, ◌-◌, ◌++◌, ◌∷◌, [], length, drop, ap, refl, sym, subst, arith}
use Rattle.arc_core.specs.Outside.{Linked, linked}
use Rattle.arc_core.specs.contracts.links.SteadyLinkLink.TheImpl.{ghosts}
use Rattle.arc_core.specs.declared.links.SteadyLink.{SteadyLink}
use Rattle.script_runs.specs.Script.{most_sessions}
use Rattle.script_runs.specs.Reading.{AreLinksOf}
use Rattle.script_runs.proofs.Scripts.{most_is, then_none, too_many, stops, one_session, at_end_ends, more_behind_end, links_last, grown, one_longer, none_behind, some_behind}
use Rattle.script_runs.proofs.script.read_sessions.Goals as goal

abbrev look : SteadyLink → Linked
look link = linked (ghosts.left link) (ghosts.read_faults link) (ghosts.sent link) (ghosts.write_faults link) (ghosts.refusals link) (ghosts.agains link)

pub records-init : goal.records-init
records-init c =
    ([], most_sessions, record { is = then_none _ }, subst (AreLinksOf look []) (sym c.new-links.ensures.items) tt, omega (arith, most_is))

pub returns-then-len-ge-MOST_SESSIONS : goal.returns-then-len-ge-MOST_SESSIONS
returns-then-len-ge-MOST_SESSIONS c =
    let so_far = c.records.invariant in
    (c.records.rest.now, too_many _ so_far.0 so_far.1 _ (omega (arith, so_far.4)) (sym c.records-test.ensures) so_far.2, refl)

pub returns-in-Err : goal.returns-in-Err
returns-in-Err c =
    let so_far = c.records.invariant in
    stops look _ so_far.0 so_far.1 _ c.in-Err.stop (omega (arith, so_far.4)) (sym c.records-test.ensures) so_far.2 c.in-Err.ensures

pub records-preserved : goal.records-preserved
records-preserved c =
    let so_far = c.records.invariant in
    let read = c.in-Ok.ensures in
    let good = sym c.is_err.ensures.value ∙ c.if-is_err.false in
    let items : c.push.new.self.items ≡ c.records.links.items ++ c.in-Ok.read.0 ∷ [] = grown _ _ _ (c.in-Ok.read.0 ∷ []) good c.push.ensures.items in (
      so_far.0 ++ read.0 ∷ [],
      so_far.1 - 1,
      one_session _ so_far.0 so_far.1 _ read.0 c.in-Ok.read.1.now (omega (arith, so_far.4)) (sym c.records-test.ensures) read.1 so_far.2,
      subst (AreLinksOf look (so_far.0 ++ read.0 ∷ [])) (sym items) (links_last look so_far.0 _ read.0 c.in-Ok.read.0 so_far.3 read.2),
      (let longer = one_longer _ _ _ good c.push.ensures.len in omega (arith, longer, so_far.4)),
    )

pub returns-then-is_empty : goal.returns-then-is_empty
returns-then-is_empty c =
    let so_far = c.records.invariant in
    (so_far.0, at_end_ends _ so_far.0 so_far.1 _ (sym c.records-test.ensures) (none_behind _ _ c.behind_end_line-behind.ensures c.if-is_empty.ensures) so_far.2, so_far.3)

pub returns-else-is_empty : goal.returns-else-is_empty
returns-else-is_empty c =
    let so_far = c.records.invariant in
    (drop 4 c.records.rest.now, more_behind_end _ so_far.0 so_far.1 _ (sym c.records-test.ensures) (some_behind _ _ c.behind_end_line-behind.ensures c.if-is_empty.ensures) so_far.2, sym (ap length c.behind_end_line-behind.ensures))
