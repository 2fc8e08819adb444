use Rattle.cfb_findings.proofs.held.Held.of_table.Goals as goal

pub returns-clause-tells : goal.returns-clause-tells
returns-clause-tells c = λ place file_len told. record { ends = c.in_ok-ends.ensures.ends; rooms = c.in_ok-rooms.ensures.rooms place file_len told }
