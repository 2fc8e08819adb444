-- What a call on the layer below does, as one of the file.
use Rattle.std.proofs.Common.{◌≡◌, ℕ, inl, inr, true, false, refl, sym, subst, ◌∙◌, ⊎_elim}
use Rattle.std.specs.Prelude.{Err, None, Ok, Option, Result, Some}
use Rattle.cfb_entries.specs.Rules.{answer_at}
use Rattle.cfb_fat.specs.Tables.{has_failed_here}
use Rattle.cfb_tree_edits.specs.LiveTreeRules as live
use Rattle.cfb_tree_edits.specs.Orphans.{FileBecomesTree}
use Rattle.cfb_spec.specs.TreeRules.{set_modified_time, touch, tree_step, Call}
use Rattle.cfb_medium.specs.declared.error.Error.{Error}
use Rattle.cfb_medium.specs.declared.medium.ReadMedium.{Ghosts}
use Rattle.cfb_mini.specs.Views.{allocator_of}
use Rattle.cfb_tree.specs.Names.{CaseTable}
use Rattle.cfb_tree.specs.Paths.{Path}
use Rattle.cfb_tree.specs.Tree.{Tree}
use Rattle.cfb.specs.FollowedRules.{FollowsTreeRules}
use Rattle.cfb.specs.Views.{file_case_table, mini_of, most_ahead_of, sound_of, validation_of, HoldsLinks}
use Rattle.cfb.specs.declared.compound_file.CompoundFile.{CompoundFile}

same_answer : (letters : CaseTable) (tree : Tree) (moment : ℕ) (path : Option Path) → answer_at letters tree (λ names. touch names moment) path ≡ answer_at letters tree (λ names. set_modified_time names moment) path
same_answer letters tree moment None = refl
same_answer letters tree moment (Some names) = refl

module _ {F : Type 0} {g : Ghosts F} {T : Type 0} (path : Option Path) (old new : CompoundFile F g) where
  pub does_so : (call : Path → Call) (r : Result T Error) → file_case_table new ≡ file_case_table old → sound_of new ≡ sound_of old → validation_of new ≡ validation_of old → most_ahead_of new ≡ most_ahead_of old → HoldsLinks new → has_failed_here (allocator_of (mini_of old)) ≡ false → sound_of old ≡ true
      → live.FollowsLiveTreeRules (file_case_table old) path call r (mini_of old) (mini_of new) → FollowsTreeRules path call r old new
  does_so call (Ok x) letters sound validation most held live is did = record {
    failed = λ failed. let never : true ≡ false = sym failed ∙ live in absurd (cc);
    unsound = λ _ unsound. let never : true ≡ false = sym is ∙ unsound in absurd (cc);
    done = λ tree m.
        let it = did.done tree m.live in
        let comes = subst (λ l. FileBecomesTree l (mini_of old) (mini_of new) m.live.who (tree_step (file_case_table old) tree (call it.names)).0) (sym letters) (record { means = it.means; strays = it.strays }) in
        record { names = it.names; at_path = it.at_path; accepted = it.accepted; means = record { sound = sound ∙ is; live = comes.means; held = held }; strays = comes.strays };
    refused = tt;
    rests = tt;
    seen = (letters, sound, validation);
    most = most;
  }
  does_so call (Err e) letters sound validation most held live is did = record {
    failed = λ failed. let never : true ≡ false = sym failed ∙ live in absurd (cc);
    unsound = λ _ unsound. let never : true ≡ false = sym is ∙ unsound in absurd (cc);
    done = tt;
    refused = λ tree m. ⊎_elim (λ fault. inl fault) (λ rule. inr (rule.0, record { mini = rule.1; letters = letters; sound = sound; held = λ _. held })) (did.refused tree m.live);
    rests = ⊎_elim (λ failed. inl failed) (λ keeps. inr (record { mini = keeps; letters = letters; sound = sound; held = λ _. held })) did.rests;
    seen = (letters, sound, validation);
    most = most;
  }

  -- to touch an object is to set when it was modified
  pub touches : (moment : ℕ) (r : Result T Error) → FollowsTreeRules path (λ names. set_modified_time names moment) r old new → FollowsTreeRules path (λ names. touch names moment) r old new
  touches moment (Ok x) did = record {
    failed = did.failed;
    unsound = did.unsound;
    done = λ tree m. let it = did.done tree m in record { names = it.names; at_path = it.at_path; accepted = it.accepted; means = it.means; strays = it.strays };
    refused = tt;
    rests = tt;
    seen = did.seen;
    most = did.most;
  }
  touches moment (Err e) did = record {
    failed = did.failed;
    unsound = did.unsound;
    done = tt;
    refused = λ tree m. ⊎_elim (λ fault. inl fault) (λ rule. inr (same_answer (file_case_table old) tree moment path ∙ rule.0, rule.1)) (did.refused tree m);
    rests = did.rests;
    seen = did.seen;
    most = did.most;
  }
