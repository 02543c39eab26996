-- The request that the reviver's arguments make.
use Rattle.std.specs.Prelude.{◌≡◌, ℕ, ◌+◌, Bool, true, false, ◌&&◌, nat_le}
use Rattle.std.specs.Prelude.{drop, string_bytes, List, [], ◌∷◌, map}
use Rattle.program_command_line.specs.Arguments.Request as engine_command
use Rattle.reviver_runner.specs.declared.arguments.ReviverRequest.{ReviverRequest}

-- a number of one digit, as a word
abbrev pub digit_of : ℕ → List ℕ
digit_of n = (48 + n) ∷ []

-- one digit from 1 to 9
abbrev pub is_digit : List ℕ → Bool
is_digit (byte ∷ []) = nat_le 49 byte && nat_le byte 57
is_digit argument = false

-- the first word is one digit from 1 to 9
abbrev pub begins_with_digit : List (List ℕ) → Bool
begins_with_digit [] = false
begins_with_digit (argument ∷ arguments) = is_digit argument

-- The first word gives a number of lives, and the others name a log, an engine and its
-- arguments, whatever these are.
pub record ReviverArgumentsAreTaken (arguments : List (List ℕ)) : Type 0 where
  pub lives : begins_with_digit arguments ≡ true
  pub rest : engine_command.EngineArgumentsAreTaken (drop 1 arguments)

-- the first word is the number of lives, the second the log's name, and the others are the engine's
-- program and its arguments
pub record ReviverRequestIs (arguments : List (List ℕ)) (request : ReviverRequest) : Type 0 where
  pub words_are : arguments
      ≡ digit_of request.lives ∷ string_bytes request.log_name
      ∷ map string_bytes request.engine.items
