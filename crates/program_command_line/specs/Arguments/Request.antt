-- The request of arguments that name a log and an engine.
use Rattle.std.specs.Prelude.{◌≡◌, ℕ, Vec, vec_items, string_bytes, ⊤, List, [], ◌∷◌, map}
use Rattle.std.specs.Str.{IsUtf8}
use Rattle.program_command_line.specs.declared.arguments.request.EngineRequest.{EngineRequest}

-- the bytes of the arguments
abbrev pub argument_bytes_of : {Z : Type 0} → List (Vec ℕ Z) → List (List ℕ)
argument_bytes_of arguments = map vec_items arguments

-- each word is UTF-8
abbrev pub AreUtf8 : List (List ℕ) → Type 0
AreUtf8 [] = ⊤
AreUtf8 (argument ∷ arguments) = IsUtf8 argument × AreUtf8 arguments

-- a log and an engine
abbrev pub AreEnough : List (List ℕ) → Type 0
AreEnough (log ∷ engine ∷ args) = ⊤
AreEnough arguments = ⊥

-- The arguments name a log, an engine and its arguments, whatever these are.
pub record EngineArgumentsAreTaken (arguments : List (List ℕ)) : Type 0 where
  pub enough : AreEnough arguments
  pub utf8 : AreUtf8 arguments

-- the first word is the log's name, and the others are the engine's program and its arguments
pub record EngineRequestIs (arguments : List (List ℕ)) (request : EngineRequest) : Type 0 where
  pub words_are : arguments ≡ string_bytes request.log_name ∷ map string_bytes request.engine.items
