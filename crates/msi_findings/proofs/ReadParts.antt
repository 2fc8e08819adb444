-- Parts of a package that are read from its streams, and their refusals.
use Rattle.std.proofs.Common.{◌≡◌, ◌∙◌, ◌⊎◌, ℕ, List, inl, inr, ap, map, sym, subst, Some, None}
use Rattle.std.specs.Prelude.{Err, IfErr, Ok, Option, Result, bytes_eq, false}
use Rattle.cfb.specs.Views.{mini_of, OnlyReadsFile}
use Rattle.cfb.specs.declared.compound_file.CompoundFile.{CompoundFile}
use Rattle.cfb_fat.specs.Tables.{IsJustifiedBySectors}
use Rattle.cfb_medium.specs.Calls.{IsFaultOrInvalidInputIf}
use Rattle.cfb_medium.specs.declared.error.Error.{Error}
use Rattle.cfb_medium.specs.declared.error.Error.TheVariants.{InvalidData, NotFound}
use Rattle.cfb_medium.specs.declared.medium.ReadMedium.{Ghosts}
use Rattle.cfb_mini.specs.Views.{allocator_of}
use Rattle.msi_pool.specs.Pool.{PoolEntry, Pool, StoredText}
use Rattle.msi_pool.specs.PoolReading.{begun, place_read, texts_at, Heads}
use Rattle.msi_props.specs.Props.{read_under, stored_props, Props}
use Rattle.msi_store.proofs.Refusals.{begun_refuses, pool_refuses, summary_refuses, Refuses}
use Rattle.msi_stored.proofs.StoredLaws.{file_cause}
use Rattle.msi_stored.specs.Reading.{ReturnsOrFault}
use Rattle.msi_summary.specs.Summary.{summary_format}
use Rattle.msi_texts.specs.Results.{◌>>=◌, or_refused, unless_not, ReturnsOrOutOfMemory}
use Rattle.msi_texts.specs.declared.codepage.CodePage.{CodePage}
use Rattle.msi_findings.specs.Unkept.{heads_in, unkept_at, unkept_from, unkept_numbers, unkept_values}

-- a part, read from the bytes of its stream; one that isn't there
module _ {A B : Type 0} (see : A → B) (at : Option (List ℕ)) (f : List ℕ → Result B Error) where
  pub part_read : (bytes : List ℕ) (r : Result A Error) → at ≡ Some bytes → ReturnsOrOutOfMemory see r (f bytes) → ReturnsOrFault see (or_refused at NotFound >>= f) r
  part_read bytes (Ok a) is told = ap (λ o. or_refused o NotFound >>= f) is ∙ told
  part_read bytes (Err e) is (inl memory) = inl (subst (IsFaultOrInvalidInputIf ⊥) (sym memory) tt)
  part_read bytes (Err e) is (inr refused) = inr (ap (λ o. or_refused o NotFound >>= f) is ∙ refused)

  pub part_missing : at ≡ None → (or_refused at NotFound >>= f) ≡ Err NotFound
  part_missing is = ap (λ o. or_refused o NotFound >>= f) is

-- a second part, read behind a first
module _ {A B X : Type 0} (see : A → B) (first : Result X Error) (f : X → Result B Error) where
  pub then_told : (x : X) (r : Result A Error) → first ≡ Ok x → ReturnsOrFault see (f x) r → ReturnsOrFault see (first >>= f) r
  then_told x (Ok a) is told = ap (λ r. r >>= f) is ∙ told
  then_told x (Err e) is (inl fault) = inl fault
  then_told x (Err e) is (inr refused) = inr (ap (λ r. r >>= f) is ∙ refused)

  pub first_told : (e : Error) → IsFaultOrInvalidInputIf ⊥ e ⊎ (first ≡ Err e) → IsFaultOrInvalidInputIf ⊥ e ⊎ ((first >>= f) ≡ Err e)
  first_told e (inl fault) = inl fault
  first_told e (inr refused) = inr (ap (λ r. r >>= f) refused)

module _ {F : Type 0} {g : Ghosts F} {X : Type 0} where
  -- a cause behind what was only read
  pub later_cause : (a b c : CompoundFile F g) (r : Result X Error) → OnlyReadsFile a b → IfErr r (IsJustifiedBySectors (allocator_of (mini_of b)) (allocator_of (mini_of c)))
      → IfErr r (IsJustifiedBySectors (allocator_of (mini_of a)) (allocator_of (mini_of c)))
  later_cause a b c (Ok x) rests cause = tt
  later_cause a b c (Err e) rests cause = file_cause a b c e rests cause

-- ---- refusals are those of the bytes

seen_refuses : {A B : Type 0} (r : Result A Error) (f : A → B) → Refuses r → Refuses (r >>= λ a. Ok (f a))
seen_refuses (Ok a) f refuses = tt
seen_refuses (Err e) f refuses = refuses

pub heads_refuse : (bytes : List ℕ) → Refuses (heads_in bytes)
heads_refuse bytes = seen_refuses (begun bytes) (λ b. (b.page, b.heads)) (begun_refuses bytes)

abbrev pool_with_places : CodePage → List PoolEntry → Pool
pool_with_places page places = record { page = page; long = false; places = places }

pub unkept_refuse : (page : CodePage) (heads : Heads) (bytes : List ℕ) → Refuses (unkept_at page heads bytes)
unkept_refuse page heads bytes = by (texts_at heads bytes) (pool_refuses (record { page = page; long = false; heads = heads }) bytes)
  where
    by : (r : Result (List StoredText) Error) → Refuses ((r >>= λ stored. Ok (map (place_read page) stored)) >>= λ places. Ok (pool_with_places page places))
        → Refuses (r >>= λ stored. Ok (unkept_from page 1 stored))
    by (Ok stored) refuses = tt
    by (Err e) refuses = refuses

pub values_refuse : (bytes : List ℕ) → Refuses (unkept_values bytes)
values_refuse bytes = by (stored_props bytes) (summary_refuses bytes)
  where
    by : (r : Result Props Error) → Refuses ((r >>= λ s. Ok (read_under s)) >>= λ s. unless_not (bytes_eq s.format summary_format) InvalidData >>= λ _. Ok s)
        → Refuses (r >>= λ s. Ok (unkept_numbers s.page s.values))
    by (Ok s) refuses = tt
    by (Err e) refuses = refuses
