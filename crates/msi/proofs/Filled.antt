-- Where a call on a package answers `Full`.
use Rattle.std.proofs.Common.{◌≡◌, ◌∙◌, Bool, ap, false, map, refl, sym, true}
use Rattle.std.specs.Prelude.{Err, Result}
use Rattle.cfb.specs.Views.{mini_of}
use Rattle.cfb_fat.specs.Tables.{has_failed_here}
use Rattle.cfb_medium.specs.declared.error.Error.{Error}
use Rattle.cfb_medium.specs.declared.error.Error.TheVariants.{Failed, Full, InvalidData}
use Rattle.cfb_medium.specs.declared.medium.ReadMedium.{Ghosts}
use Rattle.cfb_mini.specs.Views.{allocator_of}
use Rattle.msi_row_edits.specs.Edited.{EditFullOnlyWithoutRoom}
use Rattle.msi_parts.specs.Parts.{heading}
use Rattle.msi_pool.specs.Pool.{Pool}
use Rattle.msi_stored.specs.Changing.{PackageRule}
use Rattle.msi_stored.specs.Room.{FillsBy}
use Rattle.msi.specs.Changing.{FullOnlyWithoutRoom, failed_in, permission}
use Rattle.msi.specs.Opened.{file_in, pool_in, sound_in, store_in}
use Rattle.msi.specs.declared.package.Package.{Package}
use Rattle.msi.proofs.Changed.{failed_too}

no_room_lacks : (failed sound : Bool) (e : Error) → permission failed sound ≡ Err e → e ≡ Full → ⊥
no_room_lacks true sound e is full = (let never : (◌≡◌ {A = Result (Unit {0}) Error} (Err Failed) (Err Full)) = is ∙ ap (λ e. Err e) full in cc)
no_room_lacks false false e is full = (let never : (◌≡◌ {A = Result (Unit {0}) Error} (Err InvalidData) (Err Full)) = is ∙ ap (λ e. Err e) full in cc)
no_room_lacks false true e is full = absurd (cc)

module _ {F : Type 0} {g : Ghosts F} (rule : PackageRule) where
  -- a call that isn't permitted lacks no room
  pub not_permitted_fills : (it : Package F g) (e : Error) → permission (failed_in it) (sound_in it) ≡ Err e → FullOnlyWithoutRoom rule (Err e) it it
  not_permitted_fills it e refused is live P h sound =
      let never : permission (failed_in it) (sound_in it) ≡ Err Full = refused ∙ is in
      absurd (no_room_lacks (failed_in it) (sound_in it) Full never refl)

  module _ (old new : Package F g) where
    lives : failed_in new ≡ false → has_failed_here (allocator_of (mini_of (file_in new))) ≡ false
    lives live = by (has_failed_here (allocator_of (mini_of (file_in new)))) refl
      where
        by : (b : Bool) → has_failed_here (allocator_of (mini_of (file_in new))) ≡ b → b ≡ false
        by false is = refl
        by true is = let never : true ≡ false = sym (failed_too (file_in new) is) ∙ live in absurd (cc)

    pub streams_fill : (r : Result (Unit {0}) Error) → FillsBy rule r (file_in old) (file_in new) → FullOnlyWithoutRoom rule r old new
    streams_fill r full is live P h sound = let both = h.sound sound in full is (lives live) h.tree P both.0 both.1

    pub rows_fill : (r : Result (Unit {0}) Error) → EditFullOnlyWithoutRoom rule r (store_in old) (store_in new) (pool_in old) → FullOnlyWithoutRoom rule r old new
    rows_fill r full is live P h sound =
        let both = h.sound sound in
        full is (lives live) h.tree P both.0 both.1 (record { pool = h.memory.pool; tables = h.memory.tables ∙ ap (λ (p : Pool). map (heading p.long) P.tables) h.memory.pool })
