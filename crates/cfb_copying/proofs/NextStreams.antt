-- The stream of an entry of the tree that comes next.
use Rattle.std.proofs.Common.{◌≡◌, ℕ, ◌+◌, ◌<◌, ◌≤◌, List, [], ◌∷◌, ◌++◌, get_or, length, map, refl, ap, sym, subst, ◌∙◌, arith}
use Rattle.std.specs.Prelude.{option_map, slice_get, slice_set, Option, Some}
use Rattle.std.proofs.lemmas.List.{length-map, map-set}
use Rattle.std.proofs.lemmas.Option.{slice_get-get_or, slice_get-map}
use Rattle.cfb_medium.specs.declared.medium.ReadMedium.{Ghosts}
use Rattle.cfb_sectors.specs.Header.{mini_cutoff}
use Rattle.cfb_sectors.specs.Sectors.{end_of_chain, joined}
use Rattle.cfb_directory.specs.Entries.{entries_in}
use Rattle.cfb_fat.specs.Growing.{IsLean}
use Rattle.cfb_fat.specs.Keeping.{lean_same}
use Rattle.cfb_chain_io.specs.ChainEffects.{AllocatorRunsOut}
use Rattle.cfb_fat.specs.Tables.{bytes_of, version_of}
use Rattle.cfb_fat.specs.declared.allocator.Allocator.{Allocator}
use Rattle.cfb_ownership.specs.LiveFile.{LiveFile}
use Rattle.cfb_ownership.specs.Owners.{directory_owner, first_of, stream_owner, Owners}
use Rattle.cfb_tree.specs.Directory.{kind_stream, Entry}
use Rattle.cfb_tree.specs.EntryViews.{entry_in}
use Rattle.cfb_tree.specs.declared.entry.DirEntry.{DirEntry}
use Rattle.cfb_copying.specs.Making.{with_list, IsFileInProgress}
use Rattle.cfb_copying.specs.Steps.{sectors_among, CanPut, HasCopied, IsNext, IsOriginal}
use Rattle.cfb_copying.proofs.Counted.{sectors_split}
use Rattle.cfb_copying.proofs.Numbers.{can_hold, never_out, some_directory}
use Rattle.cfb_copying.proofs.Originals.{can_put, entry_there, long_start, part_of, past_root}
use Rattle.cfb_copying.proofs.StreamSteps.{entry_yet, long_then, short_then}
use Rattle.cfb_copying.proofs.Tight.{one_is_not_none}

-- an entry in memory, as the list of them says it
pub entry_found : (es : List DirEntry) (id : ℕ) (e : DirEntry) → id < length es → e ≡ get_or es id e → slice_get (entries_in es) id ≡ Some (entry_in e)
entry_found es id e below is = slice_get-map entry_in es id ∙ ap {A = Option DirEntry} (option_map entry_in) (slice_get-get_or es id e below ∙ ap {A = DirEntry} Some (sym is))

module _ {F : Type 0} {g : Ghosts F} {T : Type 0} {h : Ghosts T} (a : Allocator F g) (b : Allocator T h) (s : LiveFile) (who : Owners) (ids done minis : List ℕ) (es : List DirEntry) (id : ℕ)
    (original : IsOriginal a s who ids) (next : IsNext ids done id) (has : HasCopied s who done minis (entries_in es) b) where
  pub next_there : id < length es
  next_there = let there = entry_there a s who ids original id next.among in let size = has.restarts.size in let many = length-map es entry_in in omega (arith, there, size, many)

  -- there are numbers for its sectors
  pub next_never : AllocatorRunsOut 0 (length (who.sectors (stream_owner id))) b → ⊥
  next_never =
      let split = ap (λ l. length (sectors_among who l)) next.splits ∙ sectors_split who done id next.rest in
      let some = some_directory a s who ids original in
      never_out b s.version 0 (length (who.sectors (stream_owner id))) (length (sectors_among who done) + 1) (length (who.sectors directory_owner) + length (sectors_among who ids)) has.version (can_hold a s who ids original)
      (lean_same (version_of b) (version_of b) _ _ _ (length (sectors_among who done) + 1) _ _ _ _ refl refl refl refl (omega arith) has.lean) (omega (arith, split, some))

  past : id ≡ 0 → ⊥
  past = past_root a s who ids original id next.among

  -- it has the entry that it had
  was_found : (e : Entry) → slice_get (entries_in es) id ≡ Some e → slice_get s.entries id ≡ Some e
  was_found e now = let part = part_of a s who ids original id next.among in part.1 ∙ sym (entry_yet s who done minis (entries_in es) id part.0 part.1 b has next.fresh past) ∙ now

  module _ (e : DirEntry) (now : slice_get (entries_in es) id ≡ Some (entry_in e)) where
    pub next_short : (e.kind ≡ kind_stream → mini_cutoff ≤ e.stream_len → ⊥) → HasCopied s who (done ++ id ∷ []) minis (entries_in es) b
    next_short short = short_then s who done minis (entries_in es) id (entry_in e) (was_found (entry_in e) now) b has short

    module _ (kind : e.kind ≡ kind_stream) (long : mini_cutoff ≤ e.stream_len) where
      pub next_can : CanPut a e.start_sector b 1 end_of_chain (stream_owner id) has.own has.bytes (who.sectors (stream_owner id))
      next_can = can_put a b s who ids e.start_sector 1 end_of_chain (stream_owner id) has.own has.bytes original (long_start a s who ids original id (entry_in e) next.among (was_found (entry_in e) now) kind long)
          has.version has.made (has.none id (λ it. one_is_not_none done id it.among next.fresh))

      pub next_long : (c : Allocator T h) (sectors : List ℕ) (start : ℕ) → start ≡ first_of sectors → version_of c ≡ version_of b
          → IsFileInProgress 1 end_of_chain c (with_list (stream_owner id) sectors has.own) (with_list (stream_owner id) (joined (version_of a) (bytes_of a) (who.sectors (stream_owner id))) has.bytes)
          → IsLean c (length (sectors_among who done) + 1 + length (who.sectors (stream_owner id)))
          → HasCopied s who (done ++ id ∷ []) minis (entries_in (slice_set es id (record e { start_sector = start }))) c
      next_long c sectors start is same made lean =
          let key = stream_owner id in
          let content : joined (version_of a) (bytes_of a) (who.sectors key) ≡ joined s.version s.bytes (who.sectors key) =
          ap (λ v. joined v (bytes_of a) (who.sectors key)) original.version ∙ ap (λ l. joined s.version l (who.sectors key)) original.bytes in
          let entries : slice_set (entries_in es) id (record (entry_in e) { start = first_of sectors }) ≡ entries_in (slice_set es id (record e { start_sector = start })) =
          ap {A = ℕ} (λ n. slice_set (entries_in es) id (record (entry_in e) { start = n })) (sym is) ∙ sym (map-set entry_in es id (record e { start_sector = start })) in
          subst (λ l. HasCopied s who (done ++ id ∷ []) minis l c) entries
          (long_then s who done minis (entries_in es) id (entry_in e) (was_found (entry_in e) now) b c sectors has kind long next.fresh past same
          (subst (λ l. IsFileInProgress 1 end_of_chain c (with_list key sectors has.own) (with_list key l has.bytes)) content made) lean)
