-- What reads and writes keep, and the causes of errors after them.
use Rattle.std.specs.Prelude.{◌≡◌, ℕ, ◌+◌, ◌≤◌, ◌||◌, false, true, List, IsTrue, refl}
use Rattle.std.proofs.Common.{ap, le_trans, sym, subst, ◌∙◌}
use Rattle.cfb_medium.specs.Bytes.{overwritten}
use Rattle.cfb_medium.specs.Calls.{IsJustifiedError}
use Rattle.cfb_medium.specs.declared.error.Error.{Error}
use Rattle.cfb_medium.specs.declared.error.Error.TheVariants.{Device, Failed}
use Rattle.cfb_medium.specs.declared.medium.ReadMedium.{Ghosts}
use Rattle.cfb_sectors.specs.declared.sectors.Sectors.{Sectors}
use Rattle.cfb_sectors.specs.Held.{bytes_of, has_failed_here, EndsIn, Fails, IsJustifiedByMedium, IsHonest, OnlyReadsSectors, WritesBytesAt}

module _ {F : Type 0} {g : Ghosts F} where
  pub rests_keep : (a b : Sectors F g) → OnlyReadsSectors a b → (g.honest b.inner ≡ g.honest a.inner) × (has_failed_here b ≡ has_failed_here a) × (IsHonest a → bytes_of b ≡ bytes_of a)
  rests_keep a b h = (h.honest, h.failed, h.bytes)

  -- an error has its cause also since a state that led to the old one, and had failed where that has
  since : (a b c : Sectors F g) (e : Error) → ((start : F) → g.continues start a.inner → g.continues start b.inner) → has_failed_here b ≡ has_failed_here a → IsJustifiedByMedium b c e → IsJustifiedByMedium a c e
  since a b c e leads same cause = λ start from. subst (λ f. IsJustifiedError g.failures (λ m. f || g.failed m) start c.inner e) same (cause start (leads start from))

  pub rests_cause : (a b c : Sectors F g) (e : Error) → OnlyReadsSectors a b → IsJustifiedByMedium b c e → IsJustifiedByMedium a c e
  rests_cause a b c e h = since a b c e h.continues h.failed

  -- an error that is no device's has no cause but an earlier fault
  pub own_cause : (a b : Sectors F g) (e : Error) → (e ≡ Device → ⊥) → (e ≡ Failed → has_failed_here a ≡ true) → IsJustifiedByMedium a b e
  own_cause a b e other failed = λ start from. record {
    device = λ is. absurd (other is);
    earlier = λ is. subst (λ f. IsTrue (f || g.failed start)) (sym (failed is)) refl;
  }

  pub fails_keep : (a b : Sectors F g) → Fails a b → (g.honest b.inner ≡ g.honest a.inner) × (has_failed_here b ≡ true)
  fails_keep a b h = (ap g.honest h.medium, h.failed)

  -- a cause stays the cause of the error where the layer is made to fail
  pub fails_cause : (a b c : Sectors F g) (e : Error) → IsJustifiedByMedium a b e → Fails b c → IsJustifiedByMedium a c e
  fails_cause a b c e cause h = λ start from. subst (λ m. IsJustifiedError g.failures (λ m. has_failed_here a || g.failed m) start m e) (sym h.medium) (cause start from)

  pub may_part : (it : Sectors F g) (place count part size : ℕ) → EndsIn it place count → place ≤ part → part + size ≤ place + count → EndsIn it part size
  may_part it place count part size ends from within = le_trans within ends

  pub writes_keep : (place : ℕ) (written : List ℕ) (a b : Sectors F g) → WritesBytesAt place written a b
      → (g.honest b.inner ≡ g.honest a.inner) × (has_failed_here b ≡ false → (has_failed_here a ≡ false) × (IsHonest a → bytes_of b ≡ overwritten (bytes_of a) place written))
  writes_keep place written a b h = (h.0.honest, λ live. (h.0.live live, h.0.bytes live))

  pub writes_cause : (place : ℕ) (written : List ℕ) (a b c : Sectors F g) (e : Error) → WritesBytesAt place written a b → has_failed_here b ≡ false → IsJustifiedByMedium b c e → IsJustifiedByMedium a c e
  writes_cause place written a b c e h live = since a b c e h.0.continues (live ∙ sym (h.0.live live))
