use Rattle.std.proofs.Common.{rules, drop, subst, sym}
use Rattle.std.specs.Prelude.{slice_index_or}
use Rattle.cfb_sectors.specs.Sectors.{end_of_chain, free}
use Rattle.cfb_sectors.proofs.Appending.{on_ok}
use Rattle.cfb_sectors.proofs.OneChain.{chain_unique}
use Rattle.cfb_chains.specs.ChainViews.{holder_of, sectors_of}
use Rattle.cfb_chains.specs.Changes.{AreSubsetOf}
use Rattle.cfb_chains.specs.Changes.{HaveEntry}
use Rattle.cfb_chains.proofs.chain.Chain.cut_to.Goals as goal

pub returns-then-count-eq0-clause-cuts : goal.returns-then-count-eq0-clause-cuts
returns-then-count-eq0-clause-cuts g c =
    let s = sectors_of c.args.self.now in
    let old = g.H.FreesChains.fat (holder_of c.args.self.now) in
    let new = g.H.FreesChains.fat (holder_of c.free.new.self) in
    let freed = c.free.ensures.frees in record {
      cut = search rules;
      frees = (
        freed.0,
        freed.2,
        on_ok c.free.result _ _ (λ did linked.
            let same = chain_unique old (slice_index_or s 0 end_of_chain) freed.0 s did.0 linked in
            (subst (AreSubsetOf s) (sym same) (λ n none. none), subst (λ k. HaveEntry free new (drop k s)) (sym c.if-count-eq0.true) (subst (HaveEntry free new) same did.1))) freed.1,
      );
      linked = search rules;
      writable = search rules;
      bytes = search rules;
    }
