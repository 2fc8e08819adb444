use Rattle.std.proofs.Common.{inr, inl, ⊎_elim}
use Rattle.command_file.proofs.Hex.{hex_read}
use Rattle.command_file.proofs.reading.bytes_of.Goals as goal

pub returns-in-Ok : goal.returns-in-Ok
returns-in-Ok c = let read = hex_read c.args.text.now in (rw c.in-Ok.ensures.ok at read)

pub returns-in-Err : goal.returns-in-Err
returns-in-Err c =
    let read = hex_read c.args.text.now in
    ⊎_elim (λ memory. inl memory) (λ other. inr (other.0, ⊎_elim (λ memory. absurd (other.1 memory)) (λ is. (rw is at read)) c.in-Err.ensures.err)) c.refusal.ensures
