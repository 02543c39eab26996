-- The orders of the interface, by their first token.
use Rattle.std.specs.Prelude.{ℕ, List, codes, Bool, if◌then◌else◌}
use Rattle.std.specs.Str.{bytes_eq}
use Rattle.driver_state_machine.specs.declared.order_words.OrderWord.{OrderWord}
use Rattle.driver_state_machine.specs.declared.order_words.OrderWord.TheVariants.{Quit, Uci, IsReady, Position}
use Rattle.driver_state_machine.specs.declared.order_words.OrderWord.TheVariants.{Go, Stop, PonderHit, Other}

abbrev pub order_word_in : List ℕ → OrderWord
order_word_in word =
    if bytes_eq word (codes "quit") then Quit
    else (if bytes_eq word (codes "uci") then Uci
    else (if bytes_eq word (codes "isready") then IsReady
    else (if bytes_eq word (codes "position") then Position
    else (if bytes_eq word (codes "go") then Go
    else (if bytes_eq word (codes "stop") then Stop
    else (if bytes_eq word (codes "ponderhit") then PonderHit
    else Other))))))
