-- What a pool writes is read as it was.
use Rattle.std.proofs.Common.{◌≡◌, ℕ, ◌<◌, ◌^◌, ◌⊎◌, inl, inr, Bool, true, false, cond, List, [], ◌∷◌, ◌++◌, map, length, Some, refl, ap₂, sym, arith}
use Rattle.std.specs.Prelude.{nat_le, ◌==◌, ◌&&◌, ◌||◌}
use Rattle.std.specs.List.{flat_map}
use Rattle.std.specs.Str.{chars}
use Rattle.std.proofs.lemmas.Bool.Decides.{nat_tests}
use Rattle.std.proofs.lemmas.List.{append-nil, length-map}
use Rattle.std.proofs.lemmas.Str.{IsUtf8-from_is_utf8}
use Rattle.msi_texts.specs.declared.codepage.CodePage.{CodePage}
use Rattle.msi_texts.specs.declared.codepage.CodePage.TheVariants as page
use Rattle.msi_texts.specs.Numbers.{le_bytes}
use Rattle.msi_texts.specs.Page.{encoded, decoded, page_id, id_of}
use Rattle.msi_texts.proofs.PageRoundTrip.{fitting_text_comes_back}
use Rattle.msi_pool.specs.Pool.{Pool, PoolEntry, IsHead, AreHeads, Pooled, head_bytes, head_of, stored_place, stored_of, pool_stream, data_stream}
use Rattle.msi_pool.specs.PoolKept.{IsKeptPlace, AreKept, IsWritable}

-- each page comes back from its number
pub page_comes_back : (p : CodePage) → page_id (id_of p) ≡ Some p
page_comes_back page.Windows932 = refl
page_comes_back _ = refl

-- a head is written as one is read
head_numbers : (len count : ℕ) → len < 2 ^ 32 → count < 2 ^ 16 → (count ≡ 0 → len ≡ 0) →
    IsHead len count (head_bytes len count)
head_numbers len count size few free = (size, few, go (len == 0) (count == 0) (nat_le (2 ^ 16) len) refl refl refl)
  where
    go : (a b c : Bool) → (len == 0) ≡ a → (count == 0) ≡ b → nat_le (2 ^ 16) len ≡ c →
        let bytes = cond (a && b) (le_bytes 4 0) (cond (a || c) (le_bytes 2 0 ++ le_bytes 2 count ++ le_bytes 4 len) (le_bytes 2 len ++ le_bytes 2 count)) in
        ((len < 2 ^ 16) × (len ≡ 0 → count ≡ 0) × (bytes ≡ le_bytes 2 len ++ le_bytes 2 count))
        ⊎ ((0 < count) × (bytes ≡ le_bytes 2 0 ++ le_bytes 2 count ++ le_bytes 4 len))
    go true true c e f g =
        let none : len ≡ 0 = grind (arith, nat_tests, e) in
        let unused : count ≡ 0 = grind (arith, nat_tests, f) in
        inl (omega arith, λ _. unused, rw (none, unused) refl)
    go true false c e f g = inr (grind (arith, nat_tests, f), refl)
    go false b true e f g = inr (grind (arith, nat_tests, e, free), refl)
    go false b false e f g = inl (grind (arith, nat_tests, g), λ z. absurd (grind (arith, nat_tests, e, z)), refl)

-- an empty text has no bytes
empty_encoded : (page : CodePage) → encoded page [] ≡ []
unfolding chars
empty_encoded page.Utf8 = refl
empty_encoded _ = refl

pub no_bytes : (page : CodePage) (p : PoolEntry) → IsKeptPlace page p → p.count ≡ 0 → length (encoded page p.text) ≡ 0
no_bytes page p kept e = rw (kept.free e, empty_encoded page) refl

-- all heads
pub heads_read : (page : CodePage) (ps : List PoolEntry) → AreKept page ps → AreHeads (map (stored_place page) ps) (flat_map head_of (map (stored_place page) ps))
heads_read page [] kept = omega arith
heads_read page (p ∷ ps) kept = (
  head_of (stored_place page p),
  flat_map head_of (map (stored_place page) ps),
  head_numbers (length (encoded page p.text)) p.count kept.0.size kept.0.count (no_bytes page p kept.0),
  heads_read page ps kept.1,
  refl,
)

pub texts_read : (page : CodePage) (ps : List PoolEntry) → AreKept page ps → ps ≡ map (λ s. record { text = decoded page s.0; count = s.1 }) (map (stored_place page) ps)
texts_read page [] kept = refl
texts_read page (p ∷ ps) kept =
    let text = fitting_text_comes_back page p.text (IsUtf8-from_is_utf8 p.text kept.0.utf8) kept.0.fit in
    ap₂ (λ (t : List ℕ) (qs : List PoolEntry). record { text = t; count = p.count } ∷ qs) (sym text) (texts_read page ps kept.1)

-- what a pool writes is read as it was, where its texts fit
pub written_pool_is_read : (pool : Pool) → IsWritable pool → Pooled (pool_stream pool) (data_stream pool) pool
written_pool_is_read pool kept = record {
  id = id_of pool.page;
  heads = flat_map head_of (stored_of pool);
  stored = stored_of pool;
  unread = [];
  page = page_comes_back pool.page;
  begins = refl;
  heads_are = heads_read pool.page pool.places kept.0;
  few = rw length-map kept.1;
  joined = sym (append-nil (data_stream pool));
  texts = texts_read pool.page pool.places kept.0;
}
