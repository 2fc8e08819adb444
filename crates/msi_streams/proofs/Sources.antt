-- A stream that gets the bytes of a source: what is said at each exit.
use Rattle.std.proofs.Common.{◌≡◌, ◌∙◌, ◌⊎◌, ℕ, Bool, true, false, List, IsTrue, inl, inr, length, take, replicate, refl, ap, arith, subst, sym, ⊎_elim}
use Rattle.std.proofs.lemmas.List.{length-replicate, take_all}
use Rattle.std.specs.Prelude.{Err, Ok, Result}
use Rattle.cfb.specs.Pieces.{ComesFrom, IsSourceFault, OnlyReadsSource, SourceErrorContract}
use Rattle.cfb.specs.declared.compound_file.CompoundFile.{CompoundFile}
use Rattle.cfb_fat.specs.Keeping.{own_cause}
use Rattle.cfb_fat.specs.OnlyReads.{all_rest_refl}
use Rattle.cfb_fat.specs.Tables.{has_failed_here}
use Rattle.cfb_fat.specs.declared.allocator.Allocator.{Allocator}
use Rattle.cfb_medium.specs.Calls.{IsFaultOrInvalidInputIf}
use Rattle.cfb_medium.specs.declared.error.Error.{Error}
use Rattle.cfb_medium.specs.declared.error.Error.TheVariants.{Device, Failed, Full}
use Rattle.cfb_medium.specs.declared.medium.ReadMedium.{Ghosts}
use Rattle.msi_stored.specs.Changing.{ChangesStoredPackage, PackageRule}
use Rattle.msi_stored.specs.Room.{FillsBy}
use Rattle.msi_streams.proofs.Exits.{keeps_meant, IsOpen}
use Rattle.msi_streams.proofs.Streams.{Err_same}

module _ {S : Type 0} (k : Ghosts S) (source : S) (len : ℕ) (told : IsTrue (k.honest source) → len ≡ length (k.bytes source)) where
  -- so many bytes, which are all of an honest source
  pub told_bytes : (content : List ℕ) × (IsTrue (k.honest source) → content ≡ k.bytes source) × (length content ≡ len)
  told_bytes = by (k.honest source) refl
    where
      by : (b : Bool) → k.honest source ≡ b → (content : List ℕ) × (IsTrue (k.honest source) → content ≡ k.bytes source) × (length content ≡ len)
      by true is = (k.bytes source, λ honest. refl, sym (told is))
      by false is = (replicate len 0, λ honest. (let never : true ≡ false = sym honest ∙ is in absurd (cc)), length-replicate {A = ℕ} len 0)

  -- the first so many of it are all
  pub all_come : (read : S) (content : List ℕ) → OnlyReadsSource k source read → ComesFrom k read len content → IsTrue (k.honest source) → content ≡ k.bytes source
  all_come read content h comes honest =
      let same = h.same honest in
      let long = told honest in
      comes.first (subst IsTrue (sym h.as_honest) honest) (let size = ap length same in omega (arith, size, long)) ∙ ap (take len) same ∙ take_all len (k.bytes source) (omega (arith, long))

  -- what is at fault with it
  pub fault_told : (read new : S) (e : Error) → OnlyReadsSource k source read → IsSourceFault k len read new e → IsSourceFault k (length (k.bytes source)) source new e
  fault_told read new e h = ⊎_elim
      (λ since. inl (λ start from. since start (h.extends start from)))
      (λ short. inr (short.0, λ honest. let less = short.1 (subst IsTrue (sym h.as_honest) honest) in let size = ap length (h.same honest) in let long = told honest in omega (arith, less, size, long)))

module _ {S : Type 0} (k : Ghosts S) {F : Type 0} {g : Ghosts F} (Q : Error → Type 0) (len : ℕ) (e : Error) (a : Allocator F g) where
  -- an error before the source was read
  pub none_read : (s : S) → (has_failed_here a ≡ true → e ≡ Failed) → (e ≡ Device → ⊥) → (e ≡ Failed → has_failed_here a ≡ true) → IsFaultOrInvalidInputIf ⊥ e ⊎ Q e → SourceErrorContract k {T = Unit {0}} Q len (Err e) a a s s
  none_read s failed own earlier fault = record {
    live = tt;
    failed = λ is. (ap (λ x. Err x) (failed is), all_rest_refl a);
    after = inr (all_rest_refl a);
    cause = inl (own_cause a a e own earlier);
    fault = fault;
  }

  -- the source doesn't tell how many bytes it has
  pub none_told : (s r : S) → has_failed_here a ≡ false → IsSourceFault k len s r e → IsFaultOrInvalidInputIf ⊥ e → SourceErrorContract k {T = Unit {0}} Q len (Err e) a a s r
  none_told s r live cause fault = record {
    live = tt;
    failed = λ is. (let never : true ≡ false = sym is ∙ live in absurd (cc));
    after = inr (all_rest_refl a);
    cause = inr cause;
    fault = inl fault;
  }

-- the cause of an error after the source told its number of bytes
pub source_told : {S : Type 0} (k : Ghosts S) {F : Type 0} {g : Ghosts F} (Q : Error → Type 0) (source read new : S) (len : ℕ) (told : IsTrue (k.honest source) → len ≡ length (k.bytes source)) → OnlyReadsSource k source read
    → (result : Result (Unit {0}) Error) (a b : Allocator F g) → SourceErrorContract k Q len result a b read new → SourceErrorContract k Q (length (k.bytes source)) result a b source new
source_told k Q source read new len told h (Ok x) a b c = record { live = c.live; failed = c.failed; after = tt; cause = tt; fault = tt }
source_told k Q source read new len told h (Err e) a b c = record {
  live = tt;
  failed = c.failed;
  after = c.after;
  cause = ⊎_elim (λ own. inl own) (λ fault. inr (fault_told k source len told read new e h fault)) c.cause;
  fault = c.fault;
}

module _ {F : Type 0} {g : Ghosts F} (rule : PackageRule) (old : CompoundFile F g) (e : Error) where
  -- a fault before anything was changed
  pub fault_rests : IsOpen old → IsFaultOrInvalidInputIf ⊥ e → ChangesStoredPackage {T = Unit {0}} rule (Err e) old old
  fault_rests open_file fault = record {
    failed = λ failed. (let never : true ≡ false = sym failed ∙ open_file.0 in absurd (cc));
    unsound = λ live unsound. (let never : true ≡ false = sym open_file.1 ∙ unsound in absurd (cc));
    done = tt;
    refused = λ tree P m s. inl (inl fault);
    rests = inr (keeps_meant old);
    seen = (refl, refl, refl);
  }

  -- another error than that there is no room
  pub not_fills : (e ≡ Full → ⊥) → FillsBy {T = Unit {0}} rule (Err e) old old
  not_fills never is live tree P m s = absurd (never (Err_same is))
