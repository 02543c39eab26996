use Rattle.std.proofs.Common.{◌∙◌, ◌++◌, ap, subst, List}
use Rattle.std.specs.Prelude.{Contains}
use Rattle.chess_board.specs.declared.board.Move.{Move}
use Rattle.line_io.specs.Out.{Text}
use Rattle.replay_commands_on_core.specs.Moves.{move_lines}
use Rattle.replay_command_base.proofs.Announcing.{writes_as}
use Rattle.replay_commands_on_core.proofs.moves.Listing.write_moves.Goals as goal

pub put_moves-requires-clause-officers : goal.put_moves-requires-clause-officers
put_moves-requires-clause-officers g c =
    λ m has. c.move_texts_are_exact.ensures.written c.args.position.now m ((c.moves-moves.ensures.each m).0 (subst (λ (ms : List Move). Contains ms m) c.as_slice.ensures.value has))

pub returns : goal.returns
returns g c =
    let lines = c.bytes.ensures.text ∙ ap (λ (t : Text). t.text) c.put_moves.ensures ∙ ap (λ (t : Text). t.text ++ move_lines c.as_slice.result.now) c.requires ∙ ap move_lines c.as_slice.ensures.value in
    record {
      moves = c.moves-moves.result.items;
      legal = record { each = c.moves-moves.ensures.each; ordered = c.moves-moves.ensures.ordered };
      writes = writes_as _ _ _ _ _ _ _ _ lines c.write_lines.ensures;
    }
