-- Streams that stay while another one is in change.
use Rattle.std.proofs.Common.{◌≡◌, ℕ, ◌+◌, ◌*◌, ◌<◌, ◌≤◌, List, length, take, ap, sym, subst, ◌∙◌, arith}
use Rattle.std.specs.Prelude.{slice_index_or, slice_range}
use Rattle.std.specs.List.{flat_map, AllByRecursion}
use Rattle.cfb_sectors.specs.Sectors.{end_of_chain, joined, places}
use Rattle.cfb_tree.specs.Directory.{Entry}
use Rattle.cfb_ownership.specs.Held.{mini_joined, mini_places_of, OwnerHasStream, EntryLiesIn}
use Rattle.cfb_ownership.specs.LiveFile.{LiveFile}
use Rattle.cfb_ownership.specs.Owners.{mini_stream_owner, stream_owner, Owners}
use Rattle.cfb_tree_edits.specs.Freeing.{CarriesBut}
use Rattle.cfb_stream_writes.specs.Moving.{CarriesOthers}
use Rattle.cfb_tree_edits.proofs.Carried.{all_there}

-- what lies in a file lies in a longer one
pub lies_still : (old new : List ℕ) (e f : Entry) (ids ids' bytes bytes' all all' content : List ℕ) → length old ≤ length new → f.start ≡ e.start → f.size ≡ e.size → ids' ≡ ids → bytes' ≡ bytes → all' ≡ all
    → EntryLiesIn old e ids bytes all content → EntryLiesIn new f ids' bytes' all' content
lies_still old new e f ids ids' bytes bytes' all all' content longer start size same_ids same_bytes same_all h = record {
  start = start ∙ h.start ∙ ap (λ l. slice_index_or l 0 end_of_chain) (sym same_ids);
  content_is = h.content_is ∙ ap (λ n. take n bytes) (sym size) ∙ ap (take f.size) (sym same_bytes);
  whole = h.whole ∙ sym size;
  there = subst (λ l. AllByRecursion (λ p. p < length new) (take f.size l)) (sym same_all)
      (subst (λ n. AllByRecursion (λ p. p < length new) (take n all)) (sym size) (all_there (length old) (length new) (take e.size all) longer h.there));
}

module _ (key : ℕ) (s t : LiveFile) (who now : Owners) (c : CarriesOthers key s t who now) where
  pub other_stays : (id : ℕ) (e f : Entry) (content : List ℕ) → (stream_owner id ≡ key → ⊥) → f.start ≡ e.start → f.size ≡ e.size → OwnerHasStream s who id e content → OwnerHasStream t now id f content
  other_stays id e f content other start size h =
      let k = stream_owner id in
      let past : mini_stream_owner < k = omega arith in
      let minis : now.minis k ≡ who.minis k = c.minis k other in
      let ids : now.sectors k ≡ who.sectors k = c.sectors k past other in
      let joined_now : joined t.version t.bytes (now.sectors k) ≡ joined s.version s.bytes (who.sectors k) =
      ap (λ v. joined v t.bytes (now.sectors k)) c.version ∙ ap (joined s.version t.bytes) ids ∙ c.joined k past other in
      let places_now : places t.version (now.sectors k) ≡ places s.version (who.sectors k) = ap (λ v. places v (now.sectors k)) c.version ∙ ap (places s.version) ids in
      record {
        short = λ below.
            let was = h.short (let few = below in omega (arith, few, size)) in (
              ids ∙ was.0,
              lies_still s.bytes t.bytes e f (who.minis k) (now.minis k) _ _ _ _ content c.longer start size minis
                  (ap (mini_joined t now) minis ∙ c.mini_joined k other) (ap (mini_places_of t now) minis ∙ c.mini_places k other) was.1,
            );
        long = λ up.
            let was = h.long (let most = up in omega (arith, most, size)) in (
              minis ∙ was.0,
              lies_still s.bytes t.bytes e f (who.sectors k) (now.sectors k) _ _ _ _ content c.longer start size ids joined_now places_now was.1,
            );
      }

-- where the whole mini stream stays
module _ (key : ℕ) (s t : LiveFile) (who now : Owners) (past : mini_stream_owner < key) (c : CarriesBut key s t who now) where
  stream_stays : now.sectors mini_stream_owner ≡ who.sectors mini_stream_owner
  stream_stays = c.sectors mini_stream_owner (omega arith) (λ same. omega (arith, same, past))

  -- all mini sectors have their bytes
  pub minis_carried : (ids : List ℕ) → mini_joined t now ids ≡ mini_joined s who ids
  minis_carried ids =
      ap (λ l. flat_map (λ n. slice_range l (64 * n) (64 * n + 64)) ids)
      (ap (λ v. joined v t.bytes (now.sectors mini_stream_owner)) c.version ∙ ap (joined s.version t.bytes) stream_stays ∙ c.joined mini_stream_owner (omega arith) (λ same. omega (arith, same, past)))

  -- and places
  pub mini_places_carried : (ids : List ℕ) → mini_places_of t now ids ≡ mini_places_of s who ids
  mini_places_carried ids =
      ap (λ l. flat_map (λ n. slice_range l (64 * n) (64 * n + 64)) ids)
      (ap (λ v. places v (now.sectors mini_stream_owner)) c.version ∙ ap (places s.version) stream_stays)

  -- and other streams stay
  pub carries_others : CarriesOthers key s t who now
  carries_others = record {
    version = c.version;
    longer = c.longer;
    sectors = λ k above other. c.sectors k (let a = above in omega (arith, a)) other;
    minis = c.minis;
    joined = λ k above other. c.joined k (let a = above in omega (arith, a)) other;
    mini_joined = λ k other. minis_carried (who.minis k);
    mini_places = λ k other. mini_places_carried (who.minis k);
  }

-- one change, and then another
pub others_then : (key : ℕ) (r s t : LiveFile) (was who now : Owners) → CarriesOthers key r s was who → CarriesOthers key s t who now → CarriesOthers key r t was now
others_then key r s t was who now c d = record {
  version = d.version ∙ c.version;
  longer = let p = c.longer in let q = d.longer in omega (arith, p, q);
  sectors = λ k past other. d.sectors k past other ∙ c.sectors k past other;
  minis = λ k other. d.minis k other ∙ c.minis k other;
  joined = λ k past other.
      let same = c.sectors k past other in
      ap (λ v. joined v t.bytes (was.sectors k)) (sym c.version) ∙ ap (joined s.version t.bytes) (sym same) ∙ d.joined k past other
      ∙ ap (joined s.version s.bytes) same ∙ ap (λ v. joined v s.bytes (was.sectors k)) c.version ∙ c.joined k past other;
  mini_joined = λ k other.
      let same = c.minis k other in
      ap (mini_joined t now) (sym same) ∙ d.mini_joined k other ∙ ap (mini_joined s who) same ∙ c.mini_joined k other;
  mini_places = λ k other.
      let same = c.minis k other in
      ap (mini_places_of t now) (sym same) ∙ d.mini_places k other ∙ ap (mini_places_of s who) same ∙ c.mini_places k other;
}
