use Rattle.std.proofs.Common.{◌≡◌, ap, sym, ◌∙◌, subst, max}
use Rattle.arc_core.specs.BkeyOrder.{lesser_end, greater_end}
use Rattle.arc_core.specs.TreeContents.{place_of}
use Rattle.btree_scan.specs.Spans.{number_up_to, ArePlaces}
use Rattle.btree_scan.proofs.SpanLemmas.{are_places}
use Rattle.btree_scan.proofs.cursors.places.Goals as goal

pub returns-clause-places : goal.returns-clause-places
returns-clause-places g c =
    let elements = c.args.tree.now.elements in
    let range = c.args.range.now in
    let low : c.number_of_smaller-low.result ≡ place_of (lesser_end range) elements = c.number_of_smaller-low.ensures.number ∙ ap (λ b. place_of b elements) c.ends-lesser.ensures.lesser in
    let up : c.number_up_to-high.result ≡ number_up_to (greater_end range) elements = c.number_up_to-high.ensures.number ∙ ap (λ b. number_up_to b elements) c.ends-lesser.ensures.greater in
    let high : c.max.result ≡ max (number_up_to (greater_end range) elements) (place_of (lesser_end range) elements) = c.max.ensures ∙ (ap (λ n. max n c.number_of_smaller-low.result) up ∙ ap (λ n. max (number_up_to (greater_end range) elements) n) low) in
    subst (λ n. ArePlaces range elements n c.max.result) (sym low) (subst (λ n. ArePlaces range elements (place_of (lesser_end range) elements) n) (sym high) (are_places range elements c.number_of_smaller-low.ensures.rising))
