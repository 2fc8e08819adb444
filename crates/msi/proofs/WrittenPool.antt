-- The texts of a pool that was written give back their bytes.
use Rattle.std.proofs.Common.{◌≡◌, ℕ, ◌<◌, ◌^◌, ◌⊎◌, inl, inr, Bool, true, false, cond, List, [], ◌∷◌, ◌++◌, map, refl, ap, sym, arith}
use Rattle.std.specs.Prelude.{nat_le, ◌==◌, ◌&&◌, ◌||◌, All}
use Rattle.std.specs.List.{flat_map}
use Rattle.std.specs.Str.{chars}
use Rattle.std.proofs.lemmas.Bool.Decides.{nat_tests}
use Rattle.std.proofs.lemmas.List.{append-nil, length-map}
use Rattle.std.proofs.lemmas.List.Elements.{All-cons}
use Rattle.std.proofs.lemmas.Str.{IsUtf8-from_is_utf8}
use Rattle.msi_texts.specs.declared.codepage.CodePage.{CodePage}
use Rattle.msi_texts.specs.declared.codepage.CodePage.TheVariants as page
use Rattle.msi_texts.specs.Numbers.{le_bytes}
use Rattle.msi_texts.specs.Page.{encoded, decoded, id_of}
use Rattle.msi_texts.proofs.PageRoundTrip.{fitting_text_comes_back}
use Rattle.msi_pool.proofs.PoolRoundTrip.{heads_read, page_comes_back, texts_read}
use Rattle.msi_pool.specs.Pool.{Pool, PoolEntry, IsHead, Pooled, StoredText, head_bytes, head_of, stored_place, stored_of, pool_stream, data_stream}
use Rattle.msi_pool.specs.PoolKept.{IsKeptPlace, AreKept, IsWritable}

head_numbers : (len count : ℕ) → len < 2 ^ 32 → count < 2 ^ 16 → (count ≡ 0 → len ≡ 0) → IsHead len count (head_bytes len count)
head_numbers len count size few free = (size, few, go (len == 0) (count == 0) (nat_le (2 ^ 16) len) refl refl refl)
  where
    go : (a b c : Bool) → (len == 0) ≡ a → (count == 0) ≡ b → nat_le (2 ^ 16) len ≡ c →
        let bytes = cond (a && b) (le_bytes 4 0) (cond (a || c) (le_bytes 2 0 ++ le_bytes 2 count ++ le_bytes 4 len) (le_bytes 2 len ++ le_bytes 2 count)) in
        ((len < 2 ^ 16) × (len ≡ 0 → count ≡ 0) × (bytes ≡ le_bytes 2 len ++ le_bytes 2 count))
        ⊎ ((0 < count) × (bytes ≡ le_bytes 2 0 ++ le_bytes 2 count ++ le_bytes 4 len))
    go true true c e f g =
        let none : len ≡ 0 = grind (arith, nat_tests, e) in
        let unused : count ≡ 0 = grind (arith, nat_tests, f) in
        inl (omega arith, λ _. unused, rw (none, unused) refl)
    go true false c e f g = inr (grind (arith, nat_tests, f), refl)
    go false b true e f g = inr (grind (arith, nat_tests, e, free), refl)
    go false b false e f g = inl (grind (arith, nat_tests, g), λ z. absurd (grind (arith, nat_tests, e, z)), refl)

empty_encoded : (page : CodePage) → encoded page [] ≡ []
unfolding chars
empty_encoded page.Utf8 = refl
empty_encoded _ = refl

-- a text that fits comes back from its bytes
back : (page : CodePage) (p : PoolEntry) → IsKeptPlace page p → decoded page (encoded page p.text) ≡ p.text
back page p kept = fitting_text_comes_back page p.text (IsUtf8-from_is_utf8 p.text kept.utf8) kept.fit

abbrev Gives : CodePage → StoredText → Type 0
Gives page s = encoded page (decoded page s.0) ≡ s.0

texts_give : (page : CodePage) (ps : List PoolEntry) → AreKept page ps → All (Gives page) (map (stored_place page) ps)
texts_give page [] kept = λ k d l. absurd (omega (arith, l))
texts_give page (p ∷ ps) kept = All-cons (Gives page) (stored_place page p) (map (stored_place page) ps) (ap (encoded page) (back page p kept.0)) (texts_give page ps kept.1)

-- the two streams of a pool hold it, with texts that give back their bytes
pub record HoldsBack (pool : Pool) : Type 0 where
  pub pooled : Pooled (pool_stream pool) (data_stream pool) pool
  pub texts : All (λ s. encoded pool.page (decoded pool.page s.0) ≡ s.0) pooled.stored

pub written_pool_gives_back : (pool : Pool) → IsWritable pool → HoldsBack pool
written_pool_gives_back pool kept = record {
  pooled = record {
    id = id_of pool.page;
    heads = flat_map head_of (stored_of pool);
    stored = stored_of pool;
    unread = [];
    page = page_comes_back pool.page;
    begins = refl;
    heads_are = heads_read pool.page pool.places kept.0;
    few = rw length-map kept.1;
    joined = sym (append-nil (data_stream pool));
    texts = texts_read pool.page pool.places kept.0;
  };
  texts = texts_give pool.page pool.places kept.0;
}
