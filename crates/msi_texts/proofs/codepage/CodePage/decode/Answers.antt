use Rattle.std.proofs.Common.{true, false}
use Rattle.msi_texts.proofs.PageBytes.{read_bytes_come_back}
use Rattle.msi_texts.proofs.codepage.CodePage.decode.Goals as goal

pub returns-in_ok-from_utf8_lossy-clause-comes_back : goal.returns-in_ok-from_utf8_lossy-clause-comes_back
returns-in_ok-from_utf8_lossy-clause-comes_back c = read_bytes_come_back c.args.self c.args.bytes.now _ true c.if-is_utf8.ensures c.in_ok-from_utf8_lossy.ensures.lossy

pub returns-in_ok-decode_bytes-clause-comes_back : goal.returns-in_ok-decode_bytes-clause-comes_back
returns-in_ok-decode_bytes-clause-comes_back c = read_bytes_come_back c.args.self c.args.bytes.now _ false c.if-is_utf8.ensures c.in_ok-decode_bytes.ensures
