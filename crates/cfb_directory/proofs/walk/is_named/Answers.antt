use Rattle.std.proofs.Common.{◌≡◌, sym, ◌∙◌, subst, chars, string_bytes}
use Rattle.std.proofs.lemmas.Str.{encodes-chars, IsUtf8-string_bytes}
use Rattle.std.proofs.lemmas.Slice.Eq.{slice_eq-Decides}
use Rattle.std.proofs.lemmas.Bool.Decides.{Decides-eqb}
use Rattle.cfb_tree.specs.Directory.{HasName}
use Rattle.cfb_tree.specs.EntryViews.{entry_in}
use Rattle.cfb_tree.proofs.OneContent.{name_unique}
use Rattle.cfb_directory.proofs.walk.is_named.Goals as goal

pub returns-in-Some-clause-named : goal.returns-in-Some-clause-named
returns-in-Some-clause-named c =
    let e = entry_in c.args.entry.now in
    let found = string_bytes c.in-Some.found in
    let named = rw c.in-Some.is at c.in_ok-found.ensures.some in
    let decides = slice_eq-Decides Decides-eqb c.as_str.result.now c.args.name.now c.eq.result c.eq.ensures in (
      λ is. subst (λ n. HasName e (chars n)) (sym c.as_str.ensures.value ∙ decides.0 is) named,
      λ is.
          let names : chars found ≡ chars c.args.name.now = name_unique e (chars found) (chars c.args.name.now) named is in
          decides.1 (c.as_str.ensures.value ∙ sym (encodes-chars found (IsUtf8-string_bytes c.in-Some.found)) ∙ rw names (encodes-chars c.args.name.now c.utf8.name)),
    )
