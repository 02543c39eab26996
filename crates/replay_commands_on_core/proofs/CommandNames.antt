-- The table of the commands' names says what the tests of a name in turn say.
use Rattle.std.proofs.Common.{◌≡◌, ℕ, List, [], ◌∷◌, length, Bool, true, false, cond, ◌&&◌, nat_lt, Option, Some, None, refl}
use Rattle.std.specs.Prelude.{codes, if◌then◌else◌}
use Rattle.std.specs.Map.{lookup}
use Rattle.std.specs.Option.{option_map}
use Rattle.std.specs.Str.{bytes_eq}
use Rattle.replay_commands_on_core.specs.declared.command.CommandName.{CommandName}
use Rattle.replay_commands_on_core.specs.declared.command.CommandName.TheVariants as names
use Rattle.replay_commands_on_core.specs.Commands.{Replay, Check, Migrate, Drive, Games, Positions, Moves, ReplayRequest, command_without_arguments, command_by, command_named, drill_of, judge_of, revive_of}
use Rattle.replay_commands_on_core.specs.Moves.{fen_argument}
use Rattle.replay_commands_on_core.specs.Words.{settings_of}

abbrev found : (a b c d e f g h i j : Bool) → Option CommandName
found a b c d e f g h i j =
    cond a (Some names.Replay) (cond b (Some names.Check) (cond c (Some names.Migrate) (cond d (Some names.Judge)
    (cond e (Some names.Revive) (cond f (Some names.Drive) (cond g (Some names.Games) (cond h (Some names.Positions)
    (cond i (Some names.Drill) (cond j (Some names.Moves) None)))))))))

abbrev tested : (a b c d e f g h i j : Bool) → List (List ℕ) → Option ReplayRequest
tested a b c d e f g h i j arguments =
    if a then option_map (λ s. Replay s) (settings_of arguments)
    else (if b then option_map (λ s. Check s) (settings_of arguments)
    else (if c then option_map (λ s. Migrate s) (settings_of arguments)
    else (if d then judge_of arguments
    else (if e then revive_of arguments
    else (if f then command_without_arguments Drive arguments
    else (if g then option_map (λ s. Games s) (settings_of arguments)
    else (if h then option_map (λ s. Positions s) (settings_of arguments)
    else (if i then drill_of arguments
    else (if j && nat_lt 0 (length arguments) then Some (Moves (fen_argument arguments)) else None)))))))))

in_turn : (a b c d e f g h i j : Bool) (arguments : List (List ℕ)) → command_by (found a b c d e f g h i j) arguments ≡ tested a b c d e f g h i j arguments
in_turn true b c d e f g h i j arguments = refl
in_turn false true c d e f g h i j arguments = refl
in_turn false false true d e f g h i j arguments = refl
in_turn false false false true e f g h i j arguments = refl
in_turn false false false false true f g h i j arguments = refl
in_turn false false false false false true g h i j arguments = refl
in_turn false false false false false false true h i j arguments = refl
in_turn false false false false false false false true i j arguments = refl
in_turn false false false false false false false false true j arguments = refl
in_turn false false false false false false false false false true arguments = refl
in_turn false false false false false false false false false false arguments = refl

abbrev rows : List (List ℕ × CommandName)
rows =
    (codes "replay", names.Replay) ∷ (codes "check", names.Check) ∷ (codes "migrate", names.Migrate)
    ∷ (codes "judge", names.Judge) ∷ (codes "revive", names.Revive) ∷ (codes "drive", names.Drive)
    ∷ (codes "games", names.Games) ∷ (codes "positions", names.Positions) ∷ (codes "drill", names.Drill)
    ∷ (codes "moves", names.Moves) ∷ []

pub named_by : (name : List ℕ) (arguments : List (List ℕ)) → command_by (lookup (bytes_eq name) rows) arguments ≡ command_named name arguments
named_by name arguments =
    in_turn (bytes_eq name (codes "replay")) (bytes_eq name (codes "check")) (bytes_eq name (codes "migrate"))
    (bytes_eq name (codes "judge")) (bytes_eq name (codes "revive")) (bytes_eq name (codes "drive"))
    (bytes_eq name (codes "games")) (bytes_eq name (codes "positions")) (bytes_eq name (codes "drill"))
    (bytes_eq name (codes "moves")) arguments
