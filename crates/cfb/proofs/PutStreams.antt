-- A stream that is put at a path: rewritten where one is, else made and then given its bytes.
use Rattle.std.proofs.Common.{◌≡◌, Bool, true, false, inl, inr, List, ℕ, refl, ap, sym, subst, ◌∙◌, ⊎_elim}
use Rattle.std.specs.Prelude.{Err, None, Ok, Option, Result, Some}
use Rattle.cfb_entries.specs.Rules.{answer_at}
use Rattle.cfb_fat.specs.Calls.{FatErrorContract}
use Rattle.cfb_fat.specs.Keeping.{fails_cause}
use Rattle.cfb_fat.specs.Tables.{has_failed_here, AllFails}
use Rattle.cfb_fat.specs.declared.allocator.Allocator.{Allocator}
use Rattle.cfb_tree_edits.specs.LiveTreeRules.{IsFaultOrFull}
use Rattle.cfb_tree_edits.specs.Making.{IsMakeObjectError}
use Rattle.cfb_tree_edits.specs.Orphans.{StaysTidy}
use Rattle.cfb_tree_edits.proofs.Strays.{strays_then}
use Rattle.cfb_spec.specs.TreeRules.{create_new_stream, done, is_stream, is_stream_found, refused, tree_step, yes, Answer, Outcome}
use Rattle.cfb_medium.specs.declared.error.Error.{Error}
use Rattle.cfb_medium.specs.declared.medium.ReadMedium.{Ghosts}
use Rattle.cfb_mini.specs.Views.{allocator_of}
use Rattle.cfb_chain_io.specs.ChainEffects.{KeepsFileInvariants}
use Rattle.cfb_ownership.specs.Owners.{Owners}
use Rattle.cfb_chain_io.proofs.GoingOn.{goes_cause}
use Rattle.cfb_tree.specs.Names.{CaseTable}
use Rattle.cfb_tree.specs.Objects.{object_at}
use Rattle.cfb_tree.specs.Paths.{Path}
use Rattle.cfb_tree.specs.Tree.{Tree}
use Rattle.cfb_tree.proofs.OneContent.{Some_same}
use Rattle.cfb.specs.FollowedRules.{FollowsTreeRules, FileKeeps, FileMeansTree}
use Rattle.cfb.specs.Putting.{answer_by, putting, rewriting, IsPutStreamError, IsRefusedRewriting, KeepsMeant, FilePuts}
use Rattle.cfb.specs.Views.{file_case_table, mini_of, said_at, sound_of, validation_of, FileShowsTree}
use Rattle.cfb.specs.declared.compound_file.CompoundFile.{CompoundFile}
use Rattle.cfb.proofs.Holding.{holds_shown}
use Rattle.cfb.proofs.LiveMeaning.{holds_meant, means_kept}
use Rattle.cfb.proofs.PutTrees.{put_new, put_refused, put_there}

abbrev yes_of : Answer → Bool → Bool
yes_of (yes b) other = b
yes_of done other = other
yes_of (refused e) other = other
yes_of it other = other

-- the answer to whether a stream is there
said_so : (letters : CaseTable) (tree : Tree) (names : Path) (b : Bool) → yes b ≡ said_at letters tree is_stream (Some names) → is_stream_found (object_at letters tree names) ≡ b
said_so letters tree names b is = sym (ap (λ (a : Answer). yes_of a b) is)

module _ (letters : CaseTable) (tree : Tree) (bytes : List ℕ) where
  answer_there : (path : Option Path) → yes true ≡ said_at letters tree is_stream path → answer_by (putting bytes) letters tree path ≡ answer_by (rewriting bytes) letters tree path
  answer_there None is = refl
  answer_there (Some names) is = ap (λ (o : Outcome). o.1) (put_there letters tree names bytes (said_so letters tree names true is))

  answer_new : (path : Option Path) (e : Error) → yes false ≡ said_at letters tree is_stream path → answer_at letters tree (λ names. create_new_stream names) path ≡ refused e → answer_by (putting bytes) letters tree path ≡ refused e
  answer_new None e is told = told
  answer_new (Some names) e is told = put_refused letters tree names bytes e (said_so letters tree names false is) told

module _ {F : Type 0} {g : Ghosts F} where
  -- a file that means a tree shows it
  pub means_shown : (it : CompoundFile F g) (tree : Tree) → FileMeansTree it tree → FileShowsTree it tree
  means_shown it tree m = holds_shown it tree (holds_meant it tree m)

  -- the second file means the tree, and there are no more strays
  abbrev Comes : CompoundFile F g → CompoundFile F g → Owners → Tree → Type 0
  Comes old new who tree = (means : FileMeansTree new tree) × StaysTidy (mini_of old) (mini_of new) who means.live.who

  module _ (path : Option Path) (bytes : List ℕ) (old : CompoundFile F g) where
    -- LAW: where a stream is at the path it is rewritten
    pub puts_there : (new : CompoundFile F g) (r : Result (Unit {0}) Error) → ((tree : Tree) → FileShowsTree old tree → yes true ≡ said_at (file_case_table old) tree is_stream path) → FilePuts (rewriting bytes) path r old new → FilePuts (putting bytes) path r old new
    puts_there new (Ok x) said p = record {
      failed = p.failed;
      unsound = p.unsound;
      done = λ tree m.
          let d = p.done tree m in
          let there = said_so (file_case_table old) tree d.names true (subst (λ q. yes true ≡ said_at (file_case_table old) tree is_stream q) d.at_path (said tree (means_shown old tree m))) in
          let same = put_there (file_case_table old) tree d.names bytes there in
          let comes = subst (Comes old new m.live.who) (ap (λ (o : Outcome). o.0) (sym same)) (d.means, d.strays) in
          record { names = d.names; at_path = d.at_path; accepted = ap (λ (o : Outcome). o.1) same ∙ d.accepted; means = comes.0; strays = comes.1 };
      refused = tt;
      rests = tt;
      seen = p.seen;
    }
    puts_there new (Err e) said p = record {
      failed = p.failed;
      unsound = p.unsound;
      done = tt;
      refused = λ tree m. ⊎_elim (λ fault. inl fault) (λ rule. inr (answer_there (file_case_table old) tree bytes path (said tree (means_shown old tree m)) ∙ rule.0, rule.1)) (p.refused tree m);
      rests = p.rests;
      seen = p.seen;
    }

    -- LAW: where none is made none is put
    pub puts_refused : (new : CompoundFile F g) (e : Error) → ((tree : Tree) → FileShowsTree old tree → yes false ≡ said_at (file_case_table old) tree is_stream path) → FollowsTreeRules {T = Unit {0}} path (λ names. create_new_stream names) (Err e) old new
        → FilePuts {T = Unit {0}} (putting bytes) path (Err e) old new
    puts_refused new e said did = record {
      failed = did.failed;
      unsound = λ live unsound. (did.unsound live unsound).0;
      done = tt;
      refused = λ tree m. ⊎_elim (λ fault. inl fault) (λ rule. inr (answer_new (file_case_table old) tree bytes path e (said tree (means_shown old tree m)) rule.0, keeps rule.1)) (did.refused tree m);
      rests = ⊎_elim (λ failed. inl failed) (λ k. inr (keeps k)) did.rests;
      seen = did.seen;
    }
      where
        keeps : FileKeeps old new → KeepsMeant old new
        keeps k = record { means = λ tree m. means_kept old new tree k m }

    module _ (mid : CompoundFile F g) (x : Unit {0}) (did : FollowsTreeRules {T = Unit {0}} path (λ names. create_new_stream names) (Ok x) old mid) where
      -- LAW: one was made, and its bytes were not written: then the file has failed
      pub puts_failed : (b new : CompoundFile F g) (e : Error) → FilePuts {T = Unit {0}} (rewriting bytes) path (Err e) mid b → has_failed_here (allocator_of (mini_of new)) ≡ true
          → (file_case_table new ≡ file_case_table b) × (sound_of new ≡ sound_of b) × (validation_of new ≡ validation_of b) → FilePuts {T = Unit {0}} (putting bytes) path (Err e) old new
      puts_failed b new e p failed seen = record {
        failed = λ before. let never = did.failed before in absurd (cc);
        unsound = λ live unsound. let never = (did.unsound live unsound).0 in absurd (cc);
        done = tt;
        refused = λ tree m. inl (why tree m);
        rests = inl failed;
        seen = (seen.0 ∙ p.seen.0 ∙ did.seen.0, seen.1 ∙ p.seen.1 ∙ did.seen.1, seen.2 ∙ p.seen.2 ∙ did.seen.2);
      }
        where
          why : (tree : Tree) → FileMeansTree old tree → IsFaultOrFull e
          why tree m =
              let d = did.done tree m in
              let later = (tree_step (file_case_table old) tree (create_new_stream d.names)).0 in
              let both = put_new (file_case_table old) tree d.names bytes d.accepted later refl in
              ⊎_elim (λ fault. fault)
              (λ rule.
              let told : (rewriting bytes (file_case_table old) later d.names).1 ≡ refused e = subst (λ l. (rewriting bytes l later d.names).1 ≡ refused e) did.seen.0 (subst (λ q. answer_by (rewriting bytes) (file_case_table mid) later q ≡ refused e) d.at_path rule.0) in
              let never : done ≡ refused e = sym (ap (λ (o : Outcome). o.1) both.0) ∙ told in absurd (cc))
              (p.refused later d.means)

      -- LAW: one was made, and got its bytes
      pub puts_done : (new : CompoundFile F g) → FilePuts {T = Unit {0}} (rewriting bytes) path (Ok tt) mid new → FilePuts {T = Unit {0}} (putting bytes) path (Ok tt) old new
      puts_done new p = record {
        failed = λ before. let never = did.failed before in absurd (cc);
        unsound = λ live unsound. let never = (did.unsound live unsound).0 in absurd (cc);
        done = λ tree m.
            let d = did.done tree m in
            let later = (tree_step (file_case_table old) tree (create_new_stream d.names)).0 in
            let both = put_new (file_case_table old) tree d.names bytes d.accepted later refl in
            let q = p.done later d.means in
            let names : q.names ≡ d.names = Some_same (sym q.at_path ∙ d.at_path) in
            let who = m.live.who in
            let start : Comes old new who (rewriting bytes (file_case_table mid) later q.names).0 = (q.means, strays_then (mini_of old) (mini_of mid) (mini_of new) who d.means.live.who q.means.live.who d.strays q.strays) in
            let there : Comes old new who (rewriting bytes (file_case_table old) later d.names).0 =
            subst (λ l. Comes old new who (rewriting bytes l later d.names).0) did.seen.0 (subst (λ n. Comes old new who (rewriting bytes (file_case_table mid) later n).0) names start) in
            let comes = subst (Comes old new who) (ap (λ (o : Outcome). o.0) (both.0 ∙ sym both.1)) there in
            record {
              names = d.names;
              at_path = d.at_path;
              accepted = ap (λ (o : Outcome). o.1) both.1;
              means = comes.0;
              strays = comes.1;
            };
        refused = tt;
        rests = tt;
        seen = (p.seen.0 ∙ did.seen.0, p.seen.1 ∙ did.seen.1, p.seen.2 ∙ did.seen.2);
      }

  -- ---- errors and their causes

  module _ (a m b : Allocator F g) (x : Unit {0}) (made : FatErrorContract {T = Unit {0}} IsMakeObjectError (Ok x) a m) where
    pub put_failed_answers : (c : Allocator F g) (e : Error) → KeepsFileInvariants a m → FatErrorContract {T = Unit {0}} IsRefusedRewriting (Err e) m b → AllFails b c → FatErrorContract {T = Unit {0}} IsPutStreamError (Err e) a c
    put_failed_answers c e goes told fails = record {
      live = tt;
      failed = λ failed. let before = made.live.0 in absurd (cc);
      after = inl fails.sectors.failed;
      cause = fails_cause a b c e (goes_cause a m b e goes made.live.1 told.cause) fails;
      fault = ⊎_elim (λ fault. inl fault) (λ rule. inr (inl rule)) told.fault;
    }
