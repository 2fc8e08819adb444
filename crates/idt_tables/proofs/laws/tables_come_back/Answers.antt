use Rattle.idt_tables.proofs.TablesBack.{table_back}
use Rattle.idt_tables.proofs.laws.tables_come_back.Goals as goal

pub returns : goal.returns
returns c = table_back
