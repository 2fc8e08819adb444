use Rattle.std.proofs.Common.{inl, inr}
use Rattle.cfb_sectors.proofs.Appending.{on_ok}
use Rattle.cfb_mini.proofs.mini_allocator.MiniAllocator.grow_tables.Goals as goal

pub returns-then-count-stream_len-clause-grown : goal.returns-then-count-stream_len-clause-grown
returns-then-count-stream_len-clause-grown g c = on_ok c.grow_mini_fat.result _ _ (λ grown own h. inl (grown own h)) c.grow_mini_fat.ensures.grown

pub returns-clause-grown : goal.returns-clause-grown
returns-clause-grown g c = on_ok c.grow_mini_stream.result _ _ (λ grown own h. inr (grown own h)) c.grow_mini_stream.ensures.grown
