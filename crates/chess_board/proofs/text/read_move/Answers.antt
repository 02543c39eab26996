use Rattle.chess_board.proofs.Spelled.{read_is, some_officer}
use Rattle.chess_board.proofs.text.read_move.Goals as goal

pub returns : goal.returns
returns c =
    let text = c.args.text.now in
    let found = c.named_move.result in
    let spelled = c.named_move.ensures in
    record {
      value = read_is text found spelled.some spelled.none;
      some = spelled.some;
      officer = some_officer text found spelled.some;
      none = spelled.none;
    }
