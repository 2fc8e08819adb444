use Rattle.std.proofs.Common.{ℕ, ◌-◌, ◌≤◌, List, ◌++◌, length, replicate, arith}
use Rattle.std.proofs.lemmas.Result.{IfOk-weaker}
use Rattle.cfb_mini.specs.Changing.{MiniOverwrites}
use Rattle.cfb_mini_chains.specs.MiniChainViews.{links_of, mini_of, position_of, HasOwnedMiniChain}
use Rattle.cfb_mini_chains.specs.MiniGrowing.{MiniAppends}
use Rattle.cfb_mini_chains.proofs.Appending.{took}
use Rattle.cfb_mini_chains.proofs.chain.MiniChain.write.Goals as goal

pub returns-then-is_empty-clause-inside : goal.returns-then-is_empty-clause-inside
returns-then-is_empty-clause-inside g c = λ within.
    let it = c.args.self.now in
    let new = c.write_inside.new.self in
    let bytes = c.args.bytes.now in
    let few : c.min.result ≤ length bytes = let is = c.min.ensures in omega (arith, is) in
    took c.write_inside.result (λ n l. (own : ℕ → List ℕ) → HasOwnedMiniChain it own → MiniOverwrites (position_of it) l (mini_of it) (mini_of new) (links_of it) own × HasOwnedMiniChain new own)
    bytes c.min.result few c.write_inside.ensures.written (IfOk-weaker c.write_inside.result _ _ (λ n told. told.0) c.write_inside.ensures.there)

pub returns-then-is_empty-clause-refused_only_if : goal.returns-then-is_empty-clause-refused_only_if
returns-then-is_empty-clause-refused_only_if g c = λ wrong orderly own chain. c.write_inside.ensures.refused_only_if wrong own chain

pub returns-then-self-len-clause-inside : goal.returns-then-self-len-clause-inside
returns-then-self-len-clause-inside g c = λ within.
    let it = c.args.self.now in
    let new = c.write_inside-then-self-len.new.self in
    let bytes = c.args.bytes.now in
    let few : c.min.result ≤ length bytes = let is = c.min.ensures in omega (arith, is) in
    took c.write_inside-then-self-len.result (λ n l. (own : ℕ → List ℕ) → HasOwnedMiniChain it own → MiniOverwrites (position_of it) l (mini_of it) (mini_of new) (links_of it) own × HasOwnedMiniChain new own)
    bytes c.min.result few c.write_inside-then-self-len.ensures.written (IfOk-weaker c.write_inside-then-self-len.result _ _ (λ n told. told.0) c.write_inside-then-self-len.ensures.there)

pub returns-then-self-len-clause-refused_only_if : goal.returns-then-self-len-clause-refused_only_if
returns-then-self-len-clause-refused_only_if g c = λ wrong orderly own chain. c.write_inside-then-self-len.ensures.refused_only_if wrong own chain

pub returns-clause-behind : goal.returns-clause-behind
returns-clause-behind g c = λ beyond.
    let it = c.args.self.now in
    let new = c.write_behind.new.self in
    let bytes = c.args.bytes.now in
    let few : c.min.result ≤ length bytes = let is = c.min.ensures in omega (arith, is) in
    took c.write_behind.result (λ n l. (own : ℕ → List ℕ) → HasOwnedMiniChain it own → MiniAppends (l ++ replicate (64 - n) 0) (mini_of it) (mini_of new) (links_of it) (links_of new) own)
    bytes c.min.result few c.write_behind.ensures.written (IfOk-weaker c.write_behind.result _ _ (λ n told. told.0) c.write_behind.ensures.count)
