use Rattle.std.proofs.Common.{◌≡◌, subst}
use Rattle.std.specs.Prelude.{◌≤◌, IfErr, IfOk}
use Rattle.cfb_directory.specs.Entries.{entries_in}
use Rattle.cfb_medium.specs.Calls.{IsFaultOrInvalidInputIf}
use Rattle.cfb_medium.specs.Versions.{stream_len_mask}
use Rattle.cfb_ownership.specs.LiveFile.{LiveFile}
use Rattle.cfb_ownership.specs.Owners.{first_of, mini_fat_owner, Owners}
use Rattle.cfb_copying.specs.Steps.{HasCopy, IsOriginal}
use Rattle.cfb_copying.proofs.copying.copy_lent.Goals as goal

pub returns-clause-copied : goal.returns-clause-copied
returns-clause-copied g c =
    subst (λ a. IfOk c.copy_file.result (λ bytes. (s : LiveFile) (who : Owners) → IsOriginal {g = g.F.ReadMedium} a s who c.args.ids.now → s.entries ≡ entries_in c.args.entries.now
    → c.args.mini_fat_at ≡ first_of (who.sectors mini_fat_owner) → c.args.root_len ≤ stream_len_mask s.version → HasCopy s who c.args.ids.now c.args.root_len bytes.items))
    c.allocator_mut.ensures.value c.copy_file.ensures.copied

pub returns-clause-refused_only_if : goal.returns-clause-refused_only_if
returns-clause-refused_only_if g c =
    subst (λ a. IfErr c.copy_file.result (λ e. (s : LiveFile) (who : Owners) → IsOriginal {g = g.F.ReadMedium} a s who c.args.ids.now → s.entries ≡ entries_in c.args.entries.now
    → c.args.mini_fat_at ≡ first_of (who.sectors mini_fat_owner) → c.args.root_len ≤ stream_len_mask s.version → IsFaultOrInvalidInputIf ⊥ e))
    c.allocator_mut.ensures.value c.copy_file.ensures.refused_only_if
