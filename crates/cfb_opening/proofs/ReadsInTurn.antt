-- Reads one after the other, and causes of errors among them.
use Rattle.std.proofs.Common.{◌≡◌, List, ℕ, Bool, false, IsTrue, sym, subst, ◌∙◌}
use Rattle.std.specs.Prelude.{◌||◌}
use Rattle.cfb_medium.specs.Calls.{Reaches, IsJustifiedError, IsJustifiedSince}
use Rattle.cfb_medium.specs.declared.error.Error.{Error}
use Rattle.cfb_medium.specs.declared.medium.ReadMedium.{Ghosts}
use Rattle.cfb_sectors.specs.Held.{medium_of, OnlyReadsSectors}
use Rattle.cfb_sectors.specs.declared.sectors.Sectors.{Sectors}
use Rattle.cfb_opening.specs.Tables.{OnlyReadsMedium}

pub reads_then : {M : Type 0} (honest : M → Bool) (bytes : M → List ℕ) (continues : M → M → Type 0) (a b c : M)
    → OnlyReadsMedium honest bytes continues a b → OnlyReadsMedium honest bytes continues b c → OnlyReadsMedium honest bytes continues a c
reads_then honest bytes continues a b c p q = record {
  as_honest = q.as_honest ∙ p.as_honest;
  same = λ is. q.same (subst IsTrue (sym p.as_honest) is) ∙ p.same is;
  extends = λ start from. q.extends start (p.extends start from);
}

-- a cause since a later state, in a layer that has not failed, is one since the first
pub cause_since : {M : Type 0} (continues : M → M → Type 0) (failures : M → ℕ) (failed : M → Bool) (a b c : M) (was : Bool) (e : Error)
    → was ≡ false → Reaches continues a b → IsJustifiedSince continues failures (λ m. was || failed m) b c e → IsJustifiedSince continues failures failed a c e
cause_since continues failures failed a b c was e live extends cause =
    λ start from. subst (λ w. IsJustifiedError failures (λ m. w || failed m) start c e) live (cause start (extends start from))

pub sectors_read : {F : Type 0} {g : Ghosts F} (m : F) (a b : Sectors F g) → OnlyReadsMedium g.honest g.bytes g.continues m (medium_of a) → OnlyReadsSectors a b
    → OnlyReadsMedium g.honest g.bytes g.continues m (medium_of b)
sectors_read {F} {g} m a b reads rests =
    reads_then g.honest g.bytes g.continues m (medium_of a) (medium_of b) reads (record { as_honest = rests.honest; same = rests.bytes; extends = rests.continues })
