-- The move that a text names.
use Rattle.std.proofs.Common.{◌≡◌, ℕ, List, Option, Some, None, Result, Ok, Err, sym, ◌∙◌, inr}
use Rattle.std.specs.Prelude.{MatchOption}
use Rattle.chess_board.specs.declared.board.Move.{Move}
use Rattle.chess_board.specs.Position.{Position}
use Rattle.san_text.specs.declared.fault.SanFault.{SanFault}
use Rattle.san_text.specs.declared.fault.SanFault.TheVariants.{BadSan, NoFit, Ambiguous}
use Rattle.san_text.specs.Spelling.{SanSpelling, spelling_of_san}
use Rattle.san_text.specs.Fit.{AgreesText, SanReads}
use Rattle.san_text.specs.LongForm.{IsLongRead}
use Rattle.driver_state_machine.specs.Moves.{coordinates, FitsNone, WritesEngineMove, WritesNone, Names, NamesNone, EngineMoveIs}

unspelled : (p : Position) (s : Option SanSpelling) (m : Move) → s ≡ None → AgreesText p s m → ⊥
unspelled p None m e h = h
unspelled p (Some s) m e h = absurd (cc)

pub unread : (p : Position) (text : List ℕ) (fault : SanFault) → SanReads p text (Err fault) → FitsNone p text
unread p text BadSan h = λ m alone. unspelled p (spelling_of_san text) m h alone.0.1
unread p text NoFit h = λ m alone. h.1 m alone.0
unread p text Ambiguous h = λ m alone. h.1.1.2 (alone.1 h.0 h.1.1.0 ∙ sym (alone.1 h.1.0 h.1.1.1))

pub long_written : (p : Position) (text : List ℕ) (r : Option Move) → FitsNone p text → IsLongRead p text r → MatchOption r (WritesNone p text) (WritesEngineMove p text)
long_written p text None e h = (e, h)
long_written p text (Some m) e h = inr (e, h)

pub written_named : (p : Position) (text : List ℕ) (r : Option Move) → coordinates p text ≡ None → MatchOption r (WritesNone p text) (WritesEngineMove p text) → EngineMoveIs p text r
written_named p text None e h = (e, h)
written_named p text (Some m) e h = inr (e, h)
