use Rattle.std.proofs.Common.{sym, ap, ◌∙◌, ◌%◌, ◌^◌}
use Rattle.arc_core.specs.Item.{contents_size}
use Rattle.coll_items.specs.Holding.{contents_of, Held}
use Rattle.coll_items.proofs.SizeLemmas.{size_is}
use Rattle.coll_items.proofs.collection.Collection.size.Goals as goal

pub returns-in-List-clause-size : goal.returns-in-List-clause-size
returns-in-List-clause-size c =
    (size_is c.self.inside.attrs (contents_of c.self.inside.elements) _ c.size.result c.self.invariant (ap (λ (h : Held). h.contents) c.self.view_is)
    (c.size.ensures ∙ ap (λ e. contents_size (contents_of e) % 2 ^ 64) (sym c.in-List.is))).0

pub returns-in-List-clause-small : goal.returns-in-List-clause-small
returns-in-List-clause-small c =
    (size_is c.self.inside.attrs (contents_of c.self.inside.elements) _ c.size.result c.self.invariant (ap (λ (h : Held). h.contents) c.self.view_is)
    (c.size.ensures ∙ ap (λ e. contents_size (contents_of e) % 2 ^ 64) (sym c.in-List.is))).1

pub returns-in-Set-clause-size : goal.returns-in-Set-clause-size
returns-in-Set-clause-size c =
    (size_is c.self.inside.attrs (contents_of c.self.inside.elements) _ c.size-in-Set.result c.self.invariant (ap (λ (h : Held). h.contents) c.self.view_is)
    (c.size-in-Set.ensures ∙ ap (λ e. contents_size (contents_of e) % 2 ^ 64) (sym c.in-Set.is))).0

pub returns-in-Set-clause-small : goal.returns-in-Set-clause-small
returns-in-Set-clause-small c =
    (size_is c.self.inside.attrs (contents_of c.self.inside.elements) _ c.size-in-Set.result c.self.invariant (ap (λ (h : Held). h.contents) c.self.view_is)
    (c.size-in-Set.ensures ∙ ap (λ e. contents_size (contents_of e) % 2 ^ 64) (sym c.in-Set.is))).1

pub returns-in-Map-clause-size : goal.returns-in-Map-clause-size
returns-in-Map-clause-size c =
    (size_is c.self.inside.attrs (contents_of c.self.inside.elements) _ c.size-in-Map.result c.self.invariant (ap (λ (h : Held). h.contents) c.self.view_is)
    (c.size-in-Map.ensures ∙ ap (λ e. contents_size (contents_of e) % 2 ^ 64) (sym c.in-Map.is))).0

pub returns-in-Map-clause-small : goal.returns-in-Map-clause-small
returns-in-Map-clause-small c =
    (size_is c.self.inside.attrs (contents_of c.self.inside.elements) _ c.size-in-Map.result c.self.invariant (ap (λ (h : Held). h.contents) c.self.view_is)
    (c.size-in-Map.ensures ∙ ap (λ e. contents_size (contents_of e) % 2 ^ 64) (sym c.in-Map.is))).1
