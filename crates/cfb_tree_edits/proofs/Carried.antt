-- Streams that stay through a change.
use Rattle.std.proofs.Common.{◌≡◌, ℕ, ◌+◌, ◌*◌, ◌<◌, ◌≤◌, List, [], ◌∷◌, length, take, ap, sym, subst, ◌∙◌, arith}
use Rattle.std.specs.Prelude.{slice_index_or, slice_range}
use Rattle.std.specs.List.{flat_map, AllByRecursion}
use Rattle.cfb_sectors.specs.Sectors.{end_of_chain, joined, places}
use Rattle.cfb_tree.specs.Directory.{Entry}
use Rattle.cfb_ownership.specs.Held.{OwnerHasStream, EntryLiesIn}
use Rattle.cfb_ownership.specs.LiveFile.{LiveFile}
use Rattle.cfb_ownership.specs.Owners.{mini_stream_owner, stream_owner, Owners}
use Rattle.cfb_tree_edits.specs.Freeing.{CarriesBut}

-- the same version, at least as many bytes, and the streams and the mini stream have the sectors and the bytes that they had
pub record Carries (s t : LiveFile) (who now : Owners) : Type 0 where
  pub version : t.version ≡ s.version
  pub longer : length s.bytes ≤ length t.bytes
  pub sectors : (k : ℕ) → mini_stream_owner ≤ k → now.sectors k ≡ who.sectors k
  pub minis : now.minis ≡ who.minis
  pub joined : (k : ℕ) → mini_stream_owner ≤ k → joined s.version t.bytes (who.sectors k) ≡ joined s.version s.bytes (who.sectors k)

pub all_there : (few many : ℕ) (places : List ℕ) → few ≤ many → AllByRecursion (λ p. p < few) places → AllByRecursion (λ p. p < many) places
all_there few many [] most all = tt
all_there few many (p ∷ places) most all = ((let first = all.0 in omega (arith, first, most)), all_there few many places most all.1)

pub carries_but : (s t : LiveFile) (who now : Owners) → Carries s t who now → CarriesBut 0 s t who now
carries_but s t who now c = record {
  version = c.version;
  longer = c.longer;
  sectors = λ k past other. c.sectors k past;
  minis = λ k other. ap (λ m. m k) c.minis;
  joined = λ k past other. c.joined k past;
}

module _ (key : ℕ) (s t : LiveFile) (who now : Owners) (c : CarriesBut key s t who now) where
  lies_still : (e f : Entry) (ids ids' bytes bytes' all all' content : List ℕ) → f.start ≡ e.start → f.size ≡ e.size → ids' ≡ ids → bytes' ≡ bytes → all' ≡ all
      → EntryLiesIn s.bytes e ids bytes all content → EntryLiesIn t.bytes f ids' bytes' all' content
  lies_still e f ids ids' bytes bytes' all all' content start size same_ids same_bytes same_all h = record {
    start = start ∙ h.start ∙ ap (λ l. slice_index_or l 0 end_of_chain) (sym same_ids);
    content_is = h.content_is ∙ ap (λ n. take n bytes) (sym size) ∙ ap (take f.size) (sym same_bytes);
    whole = h.whole ∙ sym size;
    there = subst (λ l. AllByRecursion (λ p. p < length t.bytes) (take f.size l)) (sym same_all)
        (subst (λ n. AllByRecursion (λ p. p < length t.bytes) (take n all)) (sym size) (all_there (length s.bytes) (length t.bytes) (take e.size all) c.longer h.there));
  }

  joined_now : (k : ℕ) → mini_stream_owner ≤ k → (k ≡ key → ⊥) → joined t.version t.bytes (now.sectors k) ≡ joined s.version s.bytes (who.sectors k)
  joined_now k past other = ap (λ v. joined v t.bytes (now.sectors k)) c.version ∙ ap (joined s.version t.bytes) (c.sectors k past other) ∙ c.joined k past other

  places_now : (k : ℕ) → mini_stream_owner ≤ k → (k ≡ key → ⊥) → places t.version (now.sectors k) ≡ places s.version (who.sectors k)
  places_now k past other = ap (λ v. places v (now.sectors k)) c.version ∙ ap (places s.version) (c.sectors k past other)

  pub stream_stays_but : (id : ℕ) (e f : Entry) (content : List ℕ) → (stream_owner id ≡ key → ⊥) → (mini_stream_owner ≡ key → ⊥) → f.start ≡ e.start → f.size ≡ e.size → OwnerHasStream s who id e content → OwnerHasStream t now id f content
  stream_stays_but id e f content other apart start size h =
      let k = stream_owner id in
      let past : mini_stream_owner ≤ k = omega arith in
      let minis : now.minis k ≡ who.minis k = c.minis k other in
      let mini_is = joined_now mini_stream_owner (omega arith) apart in
      let mini_at = places_now mini_stream_owner (omega arith) apart in
      record {
        short = λ below.
            let was = h.short (let few = below in omega (arith, few, size)) in (
              c.sectors k past other ∙ was.0,
              lies_still e f (who.minis k) (now.minis k) _ _ _ _ content start size minis
                  (ap (λ l. flat_map (λ n. slice_range l (64 * n) (64 * n + 64)) (now.minis k)) mini_is ∙ ap (flat_map (λ n. slice_range (joined s.version s.bytes (who.sectors mini_stream_owner)) (64 * n) (64 * n + 64))) minis)
                  (ap (λ l. flat_map (λ n. slice_range l (64 * n) (64 * n + 64)) (now.minis k)) mini_at ∙ ap (flat_map (λ n. slice_range (places s.version (who.sectors mini_stream_owner)) (64 * n) (64 * n + 64))) minis)
                  was.1,
            );
        long = λ up.
            let was = h.long (let most = up in omega (arith, most, size)) in (
              minis ∙ was.0,
              lies_still e f (who.sectors k) (now.sectors k) _ _ _ _ content start size (c.sectors k past other) (joined_now k past other) (places_now k past other) was.1,
            );
      }

pub stream_stays : (s t : LiveFile) (who now : Owners) → Carries s t who now → (id : ℕ) (e f : Entry) (content : List ℕ) → f.start ≡ e.start → f.size ≡ e.size → OwnerHasStream s who id e content → OwnerHasStream t now id f content
stream_stays s t who now c id e f content start size h =
    stream_stays_but 0 s t who now (carries_but s t who now c) id e f content (λ same. omega (arith, same)) (λ same. omega (arith, same)) start size h

-- one change, and then another that leaves all streams
pub carries_then : (key : ℕ) (r s t : LiveFile) (was who now : Owners) → CarriesBut key r s was who → Carries s t who now → CarriesBut key r t was now
carries_then key r s t was who now c d = record {
  version = d.version ∙ c.version;
  longer = let p = c.longer in let q = d.longer in omega (arith, p, q);
  sectors = λ k past other. d.sectors k past ∙ c.sectors k past other;
  minis = λ k other. ap (λ m. m k) d.minis ∙ c.minis k other;
  joined = λ k past other.
      let same = c.sectors k past other in
      ap (λ v. joined v t.bytes (was.sectors k)) (sym c.version) ∙ ap (joined s.version t.bytes) (sym same) ∙ d.joined k past
      ∙ ap (joined s.version s.bytes) same ∙ ap (λ v. joined v s.bytes (was.sectors k)) c.version ∙ c.joined k past other;
}
