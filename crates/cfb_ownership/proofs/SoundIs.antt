-- A live file that holds a tree is sound.
use Rattle.std.proofs.Common.{◌≡◌, ℕ, ◌<◌, List, [], ◌∷◌, ◌++◌, length, map, take, ap, refl, sym, subst, ◌∙◌, arith, append_assoc}
use Rattle.std.specs.Prelude.{slice_get, Some, nat_eq, false, IfSome}
use mathlib.Core.Logic.{inl, inr}
use Rattle.std.specs.List.{flat_map, AllByRecursion, IsDistinct}
use Rattle.std.proofs.lemmas.List.{append-nil, map-append}
use Rattle.cfb_tree.specs.Names.{CaseTable}
use Rattle.cfb_tree.specs.Tree.{Tree}
use Rattle.cfb_tree.specs.Directory.{kind_storage, kind_stream, Entry}
use Rattle.cfb_tree.proofs.NamesRead.{all_append}
use Rattle.cfb_spec.specs.Sound.{in_file, in_mini_stream, EntryUses, IsCovered, IsSoundBy, IsUsablePart, Part, TreeUses}
use Rattle.cfb_sectors.specs.Sectors.{fat_in, sectors_in}
use Rattle.cfb_ownership.proofs.CutChains.{cut_covers}
use Rattle.cfb_ownership.specs.Owners.{stream_owner, Owners}
use Rattle.cfb_ownership.specs.LiveFile.{LiveFile}
use Rattle.cfb_ownership.specs.LiveInvariant.{layout_of, LiveFileInvariant}
use Rattle.cfb_ownership.specs.Held.{OwnerHasStream, IsStreamAmong, OwnersHoldTree}
use Rattle.cfb_ownership.proofs.HoldsById.{each_part, IsPart}
use Rattle.cfb_ownership.proofs.MeansIs.{chain_is, means_is, mini_chain_is}
use Rattle.cfb_ownership.proofs.PartsApart.{keys_apart}
use Rattle.cfb_ownership.proofs.UsedParts.{all_keys, key_of, parts_of, used_by}
use Rattle.cfb_ownership.proofs.PartsUsable.{all_usable}
use Rattle.cfb_ownership.proofs.OwnersApart.{differ, own_apart}

abbrev pub streams_of : LiveFile → Owners → List ℕ → List Part
streams_of s who ids = flat_map (used_by s who) (map key_of ids)

-- keys of streams are distinct, and none is that of a table, the directory, the mini FAT or the mini stream
keys_past : (c : ℕ) (ids : List ℕ) → c < 4 → AllByRecursion (λ k. nat_eq c k ≡ false) (map key_of ids)
keys_past c [] small = tt
keys_past c (id ∷ ids) small = ((let past : c < key_of id = omega arith in grind arith), keys_past c ids small)

key_apart : (id : ℕ) (ids : List ℕ) → AllByRecursion (λ k. nat_eq id k ≡ false) ids → AllByRecursion (λ k. nat_eq (key_of id) k ≡ false) (map key_of ids)
key_apart id [] apart = tt
key_apart id (x ∷ ids) apart = ((let test = apart.0 in grind (arith, test)), key_apart id ids apart.1)

keys_once : (ids : List ℕ) → IsDistinct nat_eq ids → IsDistinct nat_eq (map key_of ids)
unfolding IsDistinct
keys_once [] once = tt
keys_once (id ∷ ids) once = (key_apart id ids once.0, keys_once ids once.1)

pub all_once : (ids : List ℕ) → IsDistinct nat_eq (0 ∷ ids) → IsDistinct nat_eq (all_keys ids)
unfolding IsDistinct
all_once ids once = (
  (refl, (refl, (refl, keys_past 0 ids (omega arith)))),
  ((refl, (refl, keys_past 1 ids (omega arith))), ((refl, keys_past 2 ids (omega arith)), (keys_past 3 ids (omega arith), keys_once ids once.1))),
)

pub each_key : (P : Part → Type 0) (of_key : ℕ → List Part) → ((k : ℕ) → AllByRecursion P (of_key k)) → (ks : List ℕ) → AllByRecursion P (flat_map of_key ks)
each_key P of_key each [] = tt
each_key P of_key each (k ∷ ks) = all_append P (of_key k) (flat_map of_key ks) (each k) (each_key P of_key each ks)

module _ (s : LiveFile) (who : Owners) (root : Entry) (ids : List ℕ) (kept : LiveFileInvariant s who root) where
  -- each entry uses what it owns
  stream_uses : (id : ℕ) (e : Entry) (content : List ℕ) → e.kind ≡ kind_stream → OwnerHasStream s who id e content → EntryUses s.bytes (layout_of s who root ids) e (parts_of who (stream_owner id))
  stream_uses id e content is_stream has = record {
    storage = λ is_storage. absurd (omega (arith, is_stream, is_storage));
    short = λ is below. let h = has.short below in
        (who.minis (stream_owner id), mini_chain_is s who root ids kept (stream_owner id) e.start h.1.start, ap (λ xs. map in_file xs ++ map in_mini_stream (who.minis (stream_owner id))) h.0, h.1.there);
    long = λ is up. let h = has.long up in (
      who.sectors (stream_owner id),
      chain_is s who root ids kept (stream_owner id) e.start h.1.start,
      ap (λ xs. map in_file (who.sectors (stream_owner id)) ++ map in_mini_stream xs) h.0 ∙ append-nil (map in_file (who.sectors (stream_owner id))),
      h.1.there,
    );
  }

module _ (s : LiveFile) (who : Owners) (letters : CaseTable) (tree : Tree) (h : OwnersHoldTree s who letters tree) where
  no_stream : (id : ℕ) (e : Entry) → slice_get s.entries id ≡ Some e → e.kind ≡ kind_storage → IsStreamAmong s.entries h.ids id → ⊥
  no_stream id e found is_storage among =
      let is_stream : e.kind ≡ kind_stream = subst (λ o. IfSome o (λ x. x.kind ≡ kind_stream)) found among.1 in
      omega (arith, is_stream, is_storage)

  pub tree_uses : (ids : List ℕ) → AllByRecursion (IsPart s.entries (OwnerHasStream s who)) ids → TreeUses s.bytes (layout_of s who h.root h.ids) ids (streams_of s who ids)
  tree_uses [] all = refl
  tree_uses (id ∷ ids) ((e, found, inr stream), rest) = (
    e,
    parts_of who (stream_owner id),
    streams_of s who ids,
    subst (λ all. slice_get all id ≡ Some e) h.kept.entries found,
    stream_uses s who h.root h.ids h.kept id e stream.1 stream.0 stream.2,
    tree_uses ids rest,
    refl,
  )
  tree_uses (id ∷ ids) ((e, found, inl is_storage), rest) =
      let idle = h.unused id (no_stream id e found is_storage) in (
        e,
        parts_of who (stream_owner id),
        streams_of s who ids,
        subst (λ all. slice_get all id ≡ Some e) h.kept.entries found,
        record {
          storage = λ is. let none = idle.0 in let no_minis = idle.1 in ap (λ xs. map in_file xs ++ map in_mini_stream (who.minis (stream_owner id))) none ∙ ap (map in_mini_stream) no_minis;
          short = λ is_stream below. absurd (omega (arith, is_stream, is_storage));
          long = λ is_stream up. absurd (omega (arith, is_stream, is_storage));
        },
        tree_uses ids rest,
        refl,
      )

  pub all_used : flat_map (used_by s who) (all_keys h.ids)
      ≡ map in_file (s.fat_sectors ++ s.difat_sectors ++ who.sectors 0 ++ who.sectors 1 ++ who.sectors 2) ++ streams_of s who h.ids
  all_used = simp (h.kept.minis_of_streams 0 (omega arith), h.kept.minis_of_streams 1 (omega arith), h.kept.minis_of_streams 2 (omega arith), map-append, append_assoc, append-nil)

  pub covers : IsCovered s.bytes (layout_of s who h.root h.ids)
  covers n there = cut_covers s.version s.bytes (fat_in s.version s.bytes s.fat_sectors)
      (ap length (sym same) ∙ h.kept.tables.orderly.covered ∙ h.kept.tables.counted) n there
    where
      same : s.fat ≡ take (sectors_in s.version (length s.bytes)) (fat_in s.version s.bytes s.fat_sectors)
      same = h.kept.tables.same ∙ ap (λ k. take k (fat_in s.version s.bytes s.fat_sectors)) h.kept.tables.counted

  unfoldable pub sound_is : IsSoundBy (layout_of s who h.root h.ids) letters s.bytes tree
  sound_is = record {
    means = means_is s who letters tree h;
    parts = flat_map (used_by s who) (all_keys h.ids);
    uses = (streams_of s who h.ids, tree_uses h.ids (each_part s.entries (OwnerHasStream s who) tree.content h.children h.ids h.holds), all_used);
    apart = keys_apart (used_by s who) (own_apart s who h.root h.ids h.kept) (differ s who h.root h.ids h.kept) (all_keys h.ids) (all_once h.ids h.once);
    usable = each_key (IsUsablePart s.bytes (layout_of s who h.root h.ids)) (used_by s who) (all_usable s who h.root h.ids h.kept) (all_keys h.ids);
    covered = covers;
  }
