use Rattle.std.proofs.Common.{◌∙◌, ◌++◌, ◌∷◌, ◌-◌, ap, refl, length, chars}
use Rattle.cfb_tree.specs.EntryViews.{entry_in}
use Rattle.cfb_entries.specs.Listed.{listed_at, prefix_text}
use Rattle.cfb_entries.proofs.Telling.{ok_case, parents_of}
use Rattle.cfb_entries.proofs.listing.top_of.Goals as goal

pub returns-clause-below : goal.returns-clause-below
returns-clause-below c =
    let names = c.args.names.now in
    let text = ap chars c.deref.ensures ∙ c.in_ok-prefix.ensures.text ∙ ap prefix_text (parents_of names (length names - 1) refl) in
    ok_case _ _ c.below.result (λ x told some. let (name, has, is) = told in (name, has, is ∙ ap (λ front. listed_at (entry_in c.args.entry.now) (front ++ 47 ∷ name) name) text)) c.below.ensures.listed
