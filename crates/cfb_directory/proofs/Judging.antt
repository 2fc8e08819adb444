-- Entries in memory, one by one.
use Rattle.std.proofs.Common.{◌≡◌, ℕ, ◌<◌, ◌≤◌, List, map, length, refl, sym, ◌∙◌, ap, subst, arith, ◌+◌, ◌*◌, ◌++◌, [], ◌∷◌, take, drop, Bool, true, false, IsTrue}
use Rattle.std.specs.Prelude.{slice_get, Some, None, ◌==◌}
use Rattle.std.specs.Option.{option_map}
use Rattle.std.specs.Ordering.{ordering_index}
use Rattle.std.specs.declared.cmp.Ordering.{Ordering}
use Rattle.std.specs.declared.cmp.Ordering.TheVariants.{Less, Equal, Greater}
use Rattle.std.proofs.lemmas.Option.{slice_get-map, slice_get_past}
use Rattle.std.specs.Prelude.{slice_range}
use Rattle.std.proofs.lemmas.List.{map-append}
use Rattle.cfb_medium.specs.declared.version.Version.{Version}
use Rattle.cfb_medium.specs.Numbers.{pieces}
use Rattle.cfb_medium.proofs.Pieces.{pieces_more, range_is}
use Rattle.cfb_tree.specs.Directory.{entry_of}
use Rattle.cfb_tree.specs.EntryViews.{entry_in}
use Rattle.cfb_tree.specs.declared.entry.DirEntry.{DirEntry}
use Rattle.cfb_tree.specs.Names.{CaseTable, name_cmp}
use Rattle.cfb_tree.specs.Directory.{Entry, HasName}
use Rattle.cfb_tree.proofs.OneContent.{name_unique, Some_same}
use Rattle.cfb_directory.specs.Entries.{entries_in}
use Rattle.cfb_directory.specs.Taken.{Precedes}

pub lost_in : (entries : List DirEntry) (id : ℕ) → length entries ≤ id → slice_get (entries_in entries) id ≡ None
lost_in entries id past = slice_get-map entry_in entries id ∙ ap (option_map entry_in) (slice_get_past entries id past)

is_less : (o : Ordering) (b : Bool) → b ≡ (ordering_index o == 0) → (IsTrue b → o ≡ Less) × (o ≡ Less → IsTrue b)
is_less Less b e = (λ is. refl, λ is. e)
is_less Equal b e = (λ is. let never : false ≡ true = sym e ∙ is in absurd (cc), λ is. absurd (cc))
is_less Greater b e = (λ is. let never : false ≡ true = sym e ∙ is in absurd (cc), λ is. absurd (cc))

-- two names that were read, compared
pub precedes_is : (letters : CaseTable) (directory : List Entry) (one other : ℕ) (first second : Entry) (first_name second_name : List ℕ) (o : Ordering) (b : Bool)
    → slice_get directory one ≡ Some first → slice_get directory other ≡ Some second → HasName first first_name → HasName second second_name
    → o ≡ name_cmp letters first_name second_name → b ≡ (ordering_index o == 0)
    → (IsTrue b → Precedes letters directory one other) × (Precedes letters directory one other → IsTrue b)
precedes_is letters directory one other first second first_name second_name o b found found_too named named_too is e = (
  λ yes'. record {
    first = first;
    second = second;
    first_name = first_name;
    second_name = second_name;
    first_found = found;
    second_found = found_too;
    first_named = named;
    second_named = named_too;
    less = sym is ∙ (is_less o b e).0 yes';
  },
  λ p.
      let firsts : p.first ≡ first = Some_same (sym p.first_found ∙ found) in
      let seconds : p.second ≡ second = Some_same (sym p.second_found ∙ found_too) in
      let a : p.first_name ≡ first_name = name_unique first p.first_name first_name (subst (λ y. HasName y p.first_name) firsts p.first_named) named in
      let c : p.second_name ≡ second_name = name_unique second p.second_name second_name (subst (λ y. HasName y p.second_name) seconds p.second_named) named_too in
      (is_less o b e).1 (is ∙ ap (λ n. name_cmp letters n second_name) (sym a) ∙ ap (name_cmp letters p.first_name) (sym c) ∙ p.less),
)

-- one entry more of a directory's bytes
pub entries_more : (v : Version) (bytes : List ℕ) (k : ℕ) → map (entry_of v) (pieces 128 (k + 1) bytes)
    ≡ map (entry_of v) (pieces 128 k bytes) ++ entry_of v (slice_range bytes (128 * k) (128 * k + 128)) ∷ []
entries_more v bytes k =
    let here : take 128 (drop (k * 128) bytes) ≡ slice_range bytes (128 * k) (128 * k + 128) =
    ap (λ n. take 128 (drop n bytes)) (omega arith) ∙ sym (range_is bytes (128 * k) 128) in
    ap (λ n. map (entry_of v) (pieces 128 n bytes)) (omega arith)
    ∙ ap (λ p. map (entry_of v) p) (pieces_more 128 k bytes)
    ∙ map-append (entry_of v) (pieces 128 k bytes) (take 128 (drop (k * 128) bytes) ∷ [])
    ∙ ap (λ p. map (entry_of v) (pieces 128 k bytes) ++ entry_of v p ∷ []) here
