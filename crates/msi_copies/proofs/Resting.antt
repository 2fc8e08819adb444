-- A package that was only read.
use Rattle.std.proofs.Common.{◌∙◌, ap, map, subst, sym}
use Rattle.cfb.proofs.Holding.{holds_yet}
use Rattle.cfb.proofs.LiveMeaning.{means_read}
use Rattle.cfb.specs.Views.{mini_of}
use Rattle.cfb_medium.specs.declared.medium.ReadMedium.{Ghosts}
use Rattle.cfb_mini.specs.Views.{allocator_of}
use Rattle.cfb_chain_io.proofs.GoingOn.{rests_go_on}
use Rattle.cfb_chain_io.specs.ChainEffects.{KeepsFileInvariants}
use Rattle.msi.specs.Changing.{KeepsHeld}
use Rattle.msi.specs.Opened.{file_in, OnlyReadsPackage}
use Rattle.msi.specs.declared.package.Package.{Package}
use Rattle.msi_spec.specs.Opening.{keeps_encoded_names}
use Rattle.msi_spec.specs.SoundParts.{GivesBack}
use Rattle.msi_spec.specs.Split.{HasPool, HasSummary, TreeStoresRest}
use Rattle.msi_parts.specs.Parts.{heading}
use Rattle.msi_pool.specs.PoolState.{PoolState}
use Rattle.msi_stored.specs.Changing.{StoresSoundPackage}
use Rattle.msi_streams.specs.Parts.{HasThree}

module _ {F : Type 0} {g : Ghosts F} where
  -- nothing was published
  pub rests_on : (old new : Package F g) → OnlyReadsPackage old new → KeepsFileInvariants (allocator_of (mini_of (file_in old))) (allocator_of (mini_of (file_in new)))
  rests_on old new rests = rests_go_on (allocator_of (mini_of (file_in old))) (allocator_of (mini_of (file_in new))) rests.file.mini.directory.allocator

  -- what it held it holds
  pub keeps_rests : (old new : Package F g) → OnlyReadsPackage old new → KeepsHeld old new
  keeps_rests old new r = record {
    holds = λ P h. record {
      tree = h.tree;
      file = holds_yet (file_in old) (file_in new) h.tree r.file h.file;
      usable = ap keeps_encoded_names r.file.letters ∙ h.usable;
      stores = subst (λ l. TreeStoresRest l h.tree P) (sym r.file.letters) h.stores;
      memory = record {
        kind = r.kind ∙ h.memory.kind;
        summary = ap (λ s. s.props) r.summary ∙ h.memory.summary;
        pool = ap (λ (p : PoolState). p.pool) r.pool ∙ h.memory.pool;
        tables = r.tables ∙ h.memory.tables ∙ ap (λ l. map (heading l) P.tables) (sym (ap (λ (p : PoolState). p.pool.long) r.pool));
      };
      pool = λ unmodified writable. subst (λ l. HasPool l h.tree P.pool) (sym r.file.letters) (h.pool (sym (ap (λ (p : PoolState). p.modified) r.pool) ∙ unmodified) writable);
      summary = λ written fit. subst (λ l. HasSummary l h.tree P.summary) (sym r.file.letters) (h.summary (sym r.written ∙ written) fit);
      three = subst (λ l. HasThree l h.tree) (sym r.file.letters) h.three;
      sound = λ yes. let both = h.sound (sym r.sound ∙ yes) in (means_read (file_in old) (file_in new) h.tree r.file both.0, subst (λ l. StoresSoundPackage l h.tree P) (sym r.file.letters) both.1);
      back = λ yes unmodified written writable fit.
          subst (λ l. GivesBack l h.tree) (sym r.file.letters) (h.back (sym r.sound ∙ yes) (sym (ap (λ (p : PoolState). p.modified) r.pool) ∙ unmodified) (sym r.written ∙ written) writable fit);
    };
  }
