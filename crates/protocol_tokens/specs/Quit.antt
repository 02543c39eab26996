-- The line that ends a session, in both protocols.
use Rattle.std.specs.Prelude.{ℕ, List, Bool, codes}
use Rattle.std.specs.Str.{bytes_eq}
use Rattle.protocol_tokens.specs.Tokens.{first_token}

-- its first token is `quit`, and the rest is not read
abbrev pub is_quit : List ℕ → Bool
is_quit line = bytes_eq (first_token line) (codes "quit")
