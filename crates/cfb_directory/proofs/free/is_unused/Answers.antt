use Rattle.std.proofs.Common.{◌≡◌, ap, sym, ◌∙◌, arith, refl}
use Rattle.std.specs.Prelude.{slice_get, None, Some}
use Rattle.cfb_tree.specs.Directory.{Entry}
use Rattle.cfb_tree.specs.EntryViews.{entry_in, kind_of}
use Rattle.cfb_tree.proofs.OneContent.{Some_same}
use Rattle.cfb_siblings.proofs.Entries.{found_in}
use Rattle.cfb_directory.specs.Entries.{entries_in}
use Rattle.cfb_directory.proofs.Judging.{lost_in}
use Rattle.cfb_directory.proofs.Noted.{no_kind}
use Rattle.cfb_directory.proofs.free.is_unused.Goals as goal

pub returns-in-Some-Unallocated : goal.returns-in-Some-Unallocated
returns-in-Some-Unallocated c = (
  λ yes'.
      let at = c.in-Some.ensures.lookup in
      record {
        fits = omega arith;
        entry = entry_in c.in-Some.entry.now;
        found = found_in c.args.entries.now c.args.id c.in-Some.entry.now at.3.0 at.1;
        of_kind = c.in-Some-Unallocated.ensures ∙ ap kind_of c.in-Some-Unallocated.field-0-is;
      },
  λ unused. refl,
)

pub returns-in_default-2 : goal.returns-in_default-2
returns-in_default-2 c = (
  λ never. absurd (cc),
  λ unused.
      let at = c.in-Some.ensures.lookup in
      let e = entry_in c.in-Some.entry.now in
      let same : unused.entry ≡ e = Some_same (sym unused.found ∙ found_in c.args.entries.now c.args.id c.in-Some.entry.now at.3.0 at.1) in
      absurd (no_kind c.obj_type.result e.kind c.in_default.is c.obj_type.ensures (ap (λ (x : Entry). x.kind) (sym same) ∙ unused.of_kind)),
)

pub returns-in-None : goal.returns-in-None
returns-in-None c = (
  λ never. absurd (cc),
  λ unused.
      let lost : slice_get (entries_in c.args.entries.now) c.args.id ≡ None = lost_in c.args.entries.now c.args.id c.in-None.ensures.lookup.3 in
      let never : Some unused.entry ≡ None = sym unused.found ∙ lost in absurd (cc),
)
