-- A package that is adopted where it lies.
use Rattle.std.proofs.Common.{◌≡◌, ◌∙◌, ◌⊎◌, ℕ, List, [], ◌∷◌, Ok, Err, Result, Some, arith, get_or, inl, inr, length, refl, subst, sym}
use Rattle.std.specs.Prelude.{◌<◌, ◌≤◌, All, IfErr, OnOk}
use Rattle.cfb_medium.specs.Calls.{IsFaultOrInvalidInputIf}
use Rattle.cfb_medium.specs.declared.error.Error.{Error}
use Rattle.cfb_medium.specs.declared.version.Version.{Version}
use Rattle.cfb_spec.proofs.OneTree.{tree_unique}
use Rattle.cfb_tree.specs.Names.{CaseTable}
use Rattle.cfb_tree.specs.Tree.{Tree}
use Rattle.installer.proofs.Begun.{counted_later}
use Rattle.installer.proofs.Stopping.{survives_then}
use Rattle.installer.specs.CrashSurvival.{SurvivesCrash}
use Rattle.installer.specs.Refusals.{IsFreshFault}
use Rattle.installer.specs.SessionStates.{BegunCommit}
use Rattle.installer_runs.specs.Adopting.{AdoptionSurvivesCrash, AdoptsFrom, AdoptsOn, HoldsUncounted, IsAdoptionRefusal, IsOfAdopted, IsTooLongToAdopt}
use Rattle.msi.proofs.OpenAgain.{held_rest}
use Rattle.msi.specs.Committing.{BytesHoldPackage, BytesKeepPackage}
use Rattle.msi_adopting.proofs.Whole.{longer}
use Rattle.msi_adopting.specs.Adopted.{BytesHoldSoundPackage, HasLongText, IsAdopted, IsPoolTooLong, IsUnadopted}
use Rattle.msi_adopting.specs.InPlace.{BytesHoldUncounted}
use Rattle.msi_recounted.specs.Recounted.{CanBeAdopted, recounted}
use Rattle.msi_spec.proofs.PacksOnce.{packs_once}
use Rattle.msi_spec.specs.Package.{PackageContent, TreePacksPackage}
use Rattle.staged.specs.Log.{recovered}
use Rattle.staged.specs.Staged.{device_of, staged_bytes, PublishesBytes}
use Rattle.staged.specs.declared.device.Device.{Ghosts}
use Rattle.staged.specs.declared.staged.Staged.{Staged}

-- what holds of each commit
all_map : (Old New : BegunCommit → Type 0) → ((m : BegunCommit) → Old m → New m) → (marks : List BegunCommit) → All Old marks → All New marks
all_map Old New more marks all = λ k d less. more (get_or marks k d) (all k d less)

-- where no commit can be, there is none
none_left : (Of : BegunCommit → Type 0) → ((m : BegunCommit) → Of m → ⊥) → (marks : List BegunCommit) → All Of marks → marks ≡ []
none_left Of never [] all = refl
none_left Of never (m ∷ ms) all = absurd (never m (all 0 m (omega arith)))

module _ (letters : CaseTable) where
  pub held_sound : (bytes : List ℕ) (P : PackageContent) → BytesHoldSoundPackage letters bytes P → BytesHoldPackage letters bytes P
  held_sound bytes P h = record { usable = h.usable; container = h.container; tree = h.tree; means = h.means; packs = h.packs; sound = h.sound }

  -- so they keep it, whatever its texts
  pub keeps_sound : (bytes : List ℕ) (P : PackageContent) → BytesHoldSoundPackage letters bytes P → BytesKeepPackage letters bytes P
  keeps_sound bytes P h = (held_rest letters bytes P (held_sound bytes P h), λ fit. held_sound bytes P h)

  one_package : (bytes : List ℕ) (P Q : PackageContent) → BytesHoldSoundPackage letters bytes P → BytesHoldSoundPackage letters bytes Q → P ≡ Q
  one_package bytes P Q h k =
      let same = tree_unique letters bytes k.tree h.tree k.means h.means in
      packs_once letters h.tree P Q h.packs (subst (λ t. TreePacksPackage letters t Q) same k.packs)

  of_adopted : (bytes now : List ℕ) (Q : PackageContent) → BytesHoldSoundPackage letters now Q → ((tree : Tree) (P : PackageContent) → BytesHoldUncounted letters bytes tree P → IsAdopted letters tree P now)
      → (m : BegunCommit) → m.held ≡ Q → IsOfAdopted letters bytes m
  of_adopted bytes now Q some each m held = λ tree P from. let is = each tree P from in (is.can, held ∙ one_package now Q (recounted P) some is.holds)

  -- why it isn't adopted, whatever the version
  pub too_long : (tree : Tree) (P : PackageContent) (version : Version) (e : Error) → IsUnadopted letters tree P (HasLongText P ⊎ IsPoolTooLong version P) e → IsUnadopted letters tree P (IsTooLongToAdopt P) e
  too_long tree P version e told = longer letters tree P (HasLongText P ⊎ IsPoolTooLong version P) (IsTooLongToAdopt P) e by told
    where
      by : HasLongText P ⊎ IsPoolTooLong version P → IsTooLongToAdopt P
      by (inl text) = inl text
      by (inr pool) = inr (version, pool)

  module _ {D : Type 0} (g : Ghosts D) where
    -- what was published is the package with right counts
    pub adopts_there : (tree : Tree) (P : PackageContent) (mid last : Staged D g) (device : D) → device ≡ device_of last → IsAdopted letters tree P (staged_bytes mid) → (r : Result (Unit {0}) Error)
        → OnOk r (PublishesBytes mid last) → OnOk r (AdoptsOn letters g tree P device)
    adopts_there tree P mid last device same is (Ok u) published =
        subst (λ (d : D). AdoptsOn letters g tree P d) (sym same) (record { can = is.can; bytes = staged_bytes mid; published = published; found = held_sound (staged_bytes mid) (recounted P) is.holds })
    adopts_there tree P mid last device same is (Err e) published = tt

    -- and so is what was committed
    pub adopts_from : (bytes : List ℕ) (old new given : D) → given ≡ new → (now : List ℕ) (Q : PackageContent) → BytesHoldSoundPackage letters now Q
        → ((tree : Tree) (P : PackageContent) → BytesHoldUncounted letters bytes tree P → IsAdopted letters tree P now)
        → (marks : List BegunCommit) × All (λ (m : BegunCommit). m.held ≡ Q) marks × SurvivesCrash letters g old new marks → AdoptsFrom letters g bytes old given
    adopts_from bytes old new given same now Q some each own =
        subst (λ (d : D). AdoptsFrom letters g bytes old d) (sym same)
        (own.0, all_map (λ m. m.held ≡ Q) (IsOfAdopted letters bytes) (of_adopted bytes now Q some each) own.0 own.1, own.2)

    -- nothing was committed
    pub adopts_none : (bytes : List ℕ) (old new : D) → SurvivesCrash letters g old new [] → AdoptsFrom letters g bytes old new
    adopts_none bytes old new survives = ([], λ k d less. absurd (omega (arith, less)), survives)

    pub fresh_at : (r : Result (Unit {0}) Error) (old new given : D) → given ≡ new → IfErr r (IsFreshFault g old new) → IfErr r (IsFreshFault g old given)
    fresh_at r old new given same fresh = subst (λ (d : D). IfErr r (IsFreshFault g old d)) (sym same) fresh

    -- ---- from the recovery on

    pub adopts_behind : (old mid new : D) (bytes : List ℕ) → recovered (g.content old) ≡ Some bytes → SurvivesCrash letters g old mid [] → AdoptsFrom letters g bytes mid new → AdoptionSurvivesCrash letters g old new
    adopts_behind old mid new bytes given first own = λ other is.
        let same : bytes ≡ other = (let e : Some bytes ≡ Some other = sym given ∙ is in cc) in
        subst (λ b. AdoptsFrom letters g b old new) same (own.0, own.1, survives_then letters g old mid new [] own.0 first own.2)

    pub bytes_of : (old : D) (bytes : List ℕ) → recovered (g.content old) ≡ Some bytes → (tree : Tree) (P : PackageContent) → HoldsUncounted letters g old tree P → BytesHoldUncounted letters bytes tree P
    bytes_of old bytes given tree P holds =
        let same : holds.bytes ≡ bytes = (let e : Some holds.bytes ≡ Some bytes = sym holds.given ∙ given in cc) in
        subst (λ b. BytesHoldUncounted letters b tree P) same holds.held

    -- what can't be adopted is not committed
    pub adopts_never : (old new : D) (tree : Tree) (P : PackageContent) → HoldsUncounted letters g old tree P → (CanBeAdopted letters tree P → ⊥) → AdoptionSurvivesCrash letters g old new → SurvivesCrash letters g old new []
    adopts_never old new tree P holds cant survives =
        let own = survives holds.bytes holds.given in
        let none = none_left (IsOfAdopted letters holds.bytes) (λ m is. cant (is tree P holds.held).0) own.0 own.1 in
        subst (λ (marks : List BegunCommit). SurvivesCrash letters g old new marks) none own.2

    pub refused_behind : (old mid new : D) (tree : Tree) (P : PackageContent) → g.failures old ≤ g.failures mid → g.failures mid ≤ g.failures new → (r : Result (Unit {0}) Error)
        → IfErr r (IsUnadopted letters tree P (IsTooLongToAdopt P)) → IfErr r (IsFreshFault g mid new) → IfErr r (IsAdoptionRefusal letters g old new tree P)
    refused_behind old mid new tree P first second (Ok u) kind cause = tt
    refused_behind old mid new tree P first second (Err e) kind cause = record { kind = inr kind; cause = (counted_later g old mid new e first cause.0 second, cause.1) }
