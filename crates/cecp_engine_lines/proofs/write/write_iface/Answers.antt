use Rattle.cecp_lines.proofs.Officers.{read_writable}
use Rattle.cecp_engine_lines.proofs.write.write_iface.Goals as goal

pub put_move-requires-clause-writable : goal.put_move-requires-clause-writable
put_move-requires-clause-writable c = read_writable c.args.msg.now _ c.in-UserMove.is c.requires.form
