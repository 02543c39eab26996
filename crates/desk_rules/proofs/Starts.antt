-- Positions that are set up.
use Rattle.std.proofs.Common.{◌≡◌, Result, Ok, Err, Option, None, Some, refl}
use Rattle.chess_board.specs.Position.{Position}
use Rattle.fen_text.specs.declared.fault.FenFault.{FenFault}
use Rattle.game_record.specs.Game.{game_from}
use Rattle.desk_rules.specs.declared.effect.Refusal.{Refusal}
use Rattle.desk_rules.specs.declared.effect.Refusal.TheVariants as refusals
use Rattle.desk_rules.specs.declared.desk.Desk.{Desk}
use Rattle.desk_rules.specs.Lines.{spelled_position, no_position, desk_at_position, with_game}

pub no_start : (r : Result Position FenFault) → None ≡ spelled_position r → no_position r ≡ Some refusals.IllegalPosition
no_start (Ok p) e = cc
no_start (Err fault) e = refl

pub some_start : (r : Result Position FenFault) (p : Position) → Some p ≡ spelled_position r → no_position r ≡ None
some_start (Ok p) q e = refl
some_start (Err fault) q e = cc

pub placed : (d : Desk) (r : Result Position FenFault) (p : Position) → Some p ≡ spelled_position r → desk_at_position d r ≡ with_game d (game_from p)
placed d (Ok p) q e = cc
placed d (Err fault) q e = cc

pub not_placed : (d : Desk) (r : Result Position FenFault) → None ≡ spelled_position r → desk_at_position d r ≡ d
not_placed d (Ok p) e = cc
not_placed d (Err fault) e = refl
