-- The bytes of a directory, an entry after the other, and the chain that they are written to.
use Rattle.std.proofs.Common.{◌≡◌, ℕ, ◌+◌, ◌*◌, ◌/◌, ◌<◌, ◌≤◌, false, true, List, [], ◌∷◌, ◌++◌, length, map, refl, ap, sym, subst, ◌∙◌, arith, append-nil, length-append}
use Rattle.std.specs.Prelude.{if◌then◌else◌, nat_eq}
use Rattle.std.proofs.lemmas.List.{map-append, take_all}
use Rattle.cfb_medium.specs.Bytes.{overwritten}
use Rattle.cfb_medium.specs.Numbers.{all_pieces, pieces}
use Rattle.cfb_medium.specs.declared.version.Version.{Version}
use Rattle.cfb_medium.specs.declared.medium.ReadMedium.{Ghosts}
use Rattle.cfb_sectors.specs.Sectors.{sector}
use Rattle.cfb_sectors.specs.declared.initial.SectorInit.{SectorInit}
use Rattle.cfb_chains.specs.LinkViews.{ids_of}
use Rattle.cfb_chains.specs.Owned.{ReplacesChain}
use Rattle.cfb_chains.specs.declared.links.Links.{Links}
use Rattle.cfb_directory.specs.Entries.{entries_in}
use Rattle.cfb_directory.proofs.EntryBytes.{entries_behind}
use Rattle.cfb_directory.proofs.EntryPlaces.{each, each_copy}
use Rattle.cfb_fat.specs.Seeing.{seen_of}
use Rattle.cfb_fat.specs.Tables.{has_failed_here, version_of}
use Rattle.cfb_fat.specs.declared.allocator.Allocator.{Allocator}
use Rattle.cfb_chain_io.specs.ChainEffects.{content_of, KeepsFileInvariants, Overwrites, Resizes}
use Rattle.cfb_ownership.specs.Owners.{directory_owner, first_of}
use Rattle.cfb_tree.specs.Directory.{entries_of, entry_bytes, entry_of, Entry, FitsEntry}
use Rattle.cfb_tree.specs.EntryViews.{entry_in}
use Rattle.cfb_tree.specs.declared.entry.DirEntry.{DirEntry}
use Rattle.cfb_tree.proofs.EntryRead.{entry_again, length-entry_bytes}
use Rattle.cfb_copying.specs.Making.{with_list, IsFileInProgress}
use Rattle.cfb_copying.specs.Steps.{HasEntries}
use Rattle.cfb_copying.proofs.Made.{at_key, made_over, made_then}
use Rattle.cfb_copying.proofs.Pieces.{over_whole}

one_entry : (v : Version) (e : Entry) → FitsEntry v e → entries_of v (entry_bytes e) ≡ e ∷ []
unfolding entries_of each
one_entry v e fits = ap (entries_of v) (sym (append-nil (entry_bytes e))) ∙ each_copy (entry_of v) 1 (entry_bytes e) (length-entry_bytes v e fits) ∙ ap (λ x. x ∷ []) (entry_again v e fits)

-- no bytes hold no entries
pub none_yet : (v : Version) (bytes : List ℕ) → bytes ≡ [] → record { size : length bytes ≡ 0; held : entries_of v bytes ≡ [] }
unfolding entries_of all_pieces pieces
none_yet v bytes is = record { size = ap length is; held = ap (entries_of v) is }

-- an entry more behind those that were written
pub entry_more : (v : Version) (i : ℕ) (before after : List DirEntry) (e : DirEntry) (old new : List ℕ) → FitsEntry v (entry_in e) → after ≡ before ++ e ∷ [] → new ≡ old ++ entry_bytes (entry_in e)
    → length old ≡ i * 128 → entries_of v old ≡ entries_in before → (length new ≡ (i + 1) * 128) × (entries_of v new ≡ entries_in after)
entry_more v i before after e old new fits more is size held =
    let one = length-entry_bytes v (entry_in e) fits in (
      ap length is ∙ length-append old (entry_bytes (entry_in e)) ∙ omega (arith, size, one),
      ap (entries_of v) is ∙ entries_behind v i 1 old (entry_bytes (entry_in e)) size (omega (arith, one)) ∙ ap (λ l. l ++ entries_of v (entry_bytes (entry_in e))) held ∙ ap (λ l. entries_in before ++ l) (one_entry v (entry_in e) fits)
          ∙ sym (ap (map entry_in) more ∙ map-append entry_in before (e ∷ [])),
    )

-- a list that takes another's place twice
twice : (key : ℕ) (xs ys : List ℕ) (lists : ℕ → List ℕ) → with_list key xs (with_list key ys lists) ≡ with_list key xs lists
twice key xs ys lists = λ i k. at k i
  where
    at : (k : ℕ) → with_list key xs (with_list key ys lists) k ≡ with_list key xs lists k
    at k = elim (nat_eq k key) as (λ b. (if b then xs else (if b then ys else lists k)) ≡ (if b then xs else lists k)) [ true ↦ refl | false ↦ refl ]

module _ {F : Type 0} {g : Ghosts F} where
  -- the directory took in sectors, and then all its bytes were written
  pub directory_put : (init : SectorInit) (count m : ℕ) (content : List ℕ) (entries : List Entry) (a b c : Allocator F g) (before after : Links) (own bytes : ℕ → List ℕ) → IsFileInProgress 1 m a own bytes → own directory_owner ≡ 1 ∷ []
      → ids_of before ≡ 1 ∷ [] → 0 < count → KeepsFileInvariants a b → has_failed_here b ≡ false → Resizes init count a b before after → KeepsFileInvariants b c → has_failed_here c ≡ false → Overwrites 0 content b c after
      → length content ≡ length (content_of b after) → entries_of (version_of a) content ≡ entries → HasEntries (version_of a) m own bytes entries (ids_of after) c
  directory_put init count m content entries a b c before after own bytes made mine was some goes live grown went lives over size held =
      let v = version_of a in
      let ids = ids_of after in
      let same : own directory_owner ≡ ids_of before = mine ∙ sym was in
      let all : ids ≡ own directory_owner ++ grown.more =
      grown.sectors ∙ ap (λ l. l ++ grown.more) (take_all count (ids_of before) (let one = ap length was in omega (arith, one, some)) ∙ sym same) in
      let middle : IsFileInProgress 1 m b (with_list directory_owner ids own) (with_list directory_owner (content_of b after) bytes) =
      made_then 1 m a b own bytes directory_owner grown.more ids (content_of b after) made goes live grown.chain.has.honest
      (subst (λ l. ReplacesChain (sector v) [] l grown.more ids (seen_of a) (seen_of b)) (sym same) grown.becomes) all refl grown.whole in
      let last = made_over 1 m b c after (with_list directory_owner ids own) (with_list directory_owner (content_of b after) bytes) directory_owner 0 content middle (at_key directory_owner ids own) went lives over in
      record {
        content = content;
        made = subst (IsFileInProgress 1 m c (with_list directory_owner ids own))
            (ap (λ l. with_list directory_owner l (with_list directory_owner (content_of b after) bytes)) (ap (λ l. overwritten l 0 content) (at_key directory_owner (content_of b after) bytes) ∙ over_whole (content_of b after) content size)
            ∙ twice directory_owner content (content_of b after) bytes)
            (subst (λ o. IsFileInProgress 1 m c o (with_list directory_owner (overwritten (with_list directory_owner (content_of b after) bytes directory_owner) 0 content) (with_list directory_owner (content_of b after) bytes)))
            (twice directory_owner ids ids own) last);
        begins = ap first_of (all ∙ ap (λ l. l ++ grown.more) mine);
        held = held;
      }
