use Rattle.std.proofs.Common.{◌≡◌, ◌≤◌, length, sym, subst}
use Rattle.engine_revival.specs.Orders.{RevivalOrder, NewGame}
use Rattle.engine_revival.specs.Kept.{spelled}
use Rattle.engine_revival.specs.Lists.{revival_list_with, revival_batch_text}
use Rattle.engine_revival.specs.declared.order_list.TheConstants.{LIST_BYTES}
use Rattle.engine_revival.proofs.Rooms.{is_new_game, new_game_room}
use Rattle.engine_revival.proofs.state.RevivalState.keep.Goals as goal

pub replace-requires-clause-short : goal.replace-requires-clause-short
replace-requires-clause-short c =
    let e : spelled c.args.line.now ≡ NewGame = is_new_game c.args.order.now _ c.requires.order c.in-NewGame.is in
    subst (λ (x : RevivalOrder). length (revival_batch_text (revival_list_with c.args.self.now.unsent x)) ≤ LIST_BYTES) (sym e) (new_game_room c.args.self.now.unsent c.requires.roomy.settings.short)
