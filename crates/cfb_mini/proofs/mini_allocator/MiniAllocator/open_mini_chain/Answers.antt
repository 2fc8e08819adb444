use Rattle.std.proofs.Common.{subst, sym}
use Rattle.std.proofs.lemmas.Result.{IfOk-weaker}
use Rattle.cfb_mini.specs.LinkViews.{minis_of}
use Rattle.cfb_mini.specs.Minis.{AreInside}
use Rattle.cfb_mini.proofs.mini_allocator.MiniAllocator.open_mini_chain.Goals as goal

pub returns-clause-inside : goal.returns-clause-inside
returns-clause-inside g c = IfOk-weaker c.open.result _ _ (λ links inside. subst (λ len. AreInside len (minis_of links)) c.stream_len.ensures inside) c.open.ensures.inside

pub returns-clause-none : goal.returns-clause-none
returns-clause-none g c = λ wrong minis chain inside. c.open.ensures.none wrong minis chain (subst (λ len. AreInside len minis) (sym c.stream_len.ensures) inside)
