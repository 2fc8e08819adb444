-- What is said of a chain holds of the layer and the links that it borrowed.
use Rattle.std.proofs.Common.{◌≡◌, ℕ, List, sym, subst}
use Rattle.cfb_medium.specs.declared.version.Version.{Version}

-- of the chain as it was made, and as it was left
pub told_of_lent : {H : Type 0} (P : H → Version → List ℕ → H → List ℕ → Type 0) (a b c d : H) (v w : Version) (s t x y : List ℕ) → a ≡ b → v ≡ w → s ≡ t → d ≡ c → y ≡ x → P a v s c x → P b w t d y
told_of_lent P a b c d v w s t x y same_old same_version same_ids same_new same_more h =
    subst (λ l. P b w t d l) (sym same_more) (subst (λ e. P b w t e x) (sym same_new) (subst (λ l. P b w l c x) same_ids (subst (λ u. P b u s c x) same_version (subst (λ e. P e v s c x) same_old h))))
