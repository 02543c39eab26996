-- Innocent engines: those that do what UCI's description asks of them (April 2006).
use Rattle.std.specs.Prelude.{◌≡◌, ◌<◌, ℕ, zero, suc, List, [], ◌∷◌, ◌++◌, length, map}
use Rattle.std.specs.Prelude.{Bool, true, false, ◌&&◌, Option, Some, None}
use Rattle.line_io.specs.Event as events
use Rattle.script_lines.specs.Marks.{Mark, Happens, ToEngine}
use Rattle.session_judge.specs.Clean.{Entry}
use Rattle.session_judge.specs.declared.listener.Listener.{Listener}
use Rattle.session_judge.specs.declared.talk.TheConstants.{LAST_NUMBER}
use Rattle.engine_conduct.specs.declared.words.EngineWord.{EngineWord}
use Rattle.engine_conduct.specs.Broken.{breaks_declared, breaks_late, breaks_move, breaks_ponder, breaks_pv, breaks_searchmoves, breaks_unasked, is_best_word}
use Rattle.engine_conduct.specs.Conduct.{Conduct, conduct, conduct_after, first_broken, is_hearing}
use Rattle.engine_conduct.specs.Forms.{breaks_form}
use Rattle.engine_conduct.specs.Searches.{is_bound, search_place}
use Rattle.engine_conduct.specs.Words.{engine_word_in}

-- What UCI asks of a line that begins with this word, by what the engine had read when it wrote it.
pub record KeepsUci (read : Conduct) (word : EngineWord) (line : List ℕ) : Type 0 where
  -- "id: name, author", "depth <x>", "cp <x>", "mate <y>", "long algebraic notation"
  pub is_formed : breaks_form word line ≡ false
  -- "After receiving the uci command", "when the engine has received an isready"
  pub is_asked : breaks_unasked read.known.due word ≡ false
  -- "should never start calculating or pondering without receiving a go command first"
  pub is_searching : breaks_late read.known.due word line ≡ false
  -- "once at engine startup after the uci", "an integer in a certain range", "a predefined value"
  pub declares : breaks_declared read.known.due word line ≡ false
  -- "Do not exit the search without being told so in this mode!"
  pub goes_on : (is_best_word word && is_bound read.known.search) ≡ false
  -- "found the move best in this position"
  pub is_legal : breaks_move (search_place read.known.search) word line ≡ false
  -- "the best line found"
  pub shows_legal : breaks_pv (search_place read.known.search) word line ≡ false
  -- "restrict search to this moves only"
  pub is_allowed :
      breaks_searchmoves (search_place read.known.search) read.listed word line ≡ false
  -- "the move it likes to ponder on"
  pub hints_legal : breaks_ponder (search_place read.known.search) word line ≡ false

-- Of a line that begins with no word of UCI nothing is asked.
abbrev pub LineKeeps : Conduct → Option EngineWord → List ℕ → Type 0
LineKeeps read None line = Unit {0}
LineKeeps read (Some word) line = KeepsUci read word line

-- "should not quit alone": an engine that was not told to quit does not end.
abbrev pub MarkKeeps : Conduct → Mark → Type 0
MarkKeeps read (Happens (events.Engine line)) = LineKeeps read (engine_word_in line) line
MarkKeeps read (Happens events.EngineEnd) = ⊥
MarkKeeps read (Happens events.EngineLost) = ⊥
MarkKeeps read mark = Unit {0}

-- After `quit`, or an order that UCI does not know, nothing is asked.
abbrev pub Keeps : Conduct → Mark → Type 0
Keeps read mark = is_hearing read.known.hearing ≡ true → MarkKeeps read mark

-- A life: an engine's orders where it read them, and its lines where it wrote them, the newest first.
abbrev pub lived : Listener → List Mark → Conduct
lived listener [] = conduct listener []
lived listener (mark ∷ life) = conduct_after (lived listener life) 0 mark

-- An innocent engine keeps to UCI, line by line, by what it had read.
abbrev pub IsInnocent : Listener → List Mark → Type 0
IsInnocent listener [] = Unit {0}
IsInnocent listener (mark ∷ life) = IsInnocent listener life × Keeps (lived listener life) mark

-- what comes from the interface's side
abbrev pub is_read : Mark → Bool
is_read (ToEngine line) = true
is_read (Happens events.IfaceLong) = true
is_read (Happens events.IfaceEnd) = true
is_read (Happens events.IfaceLost) = true
is_read mark = false

-- what comes from the engine
abbrev pub is_said : Mark → Bool
is_said (Happens (events.Engine line)) = true
is_said (Happens events.EngineLong) = true
is_said (Happens events.EngineEnd) = true
is_said (Happens events.EngineLost) = true
is_said mark = false

-- An order is heard before a line of the engine that was written before the order was read.
pub record IsOrderHeardSooner (life heard : List Mark) : Type 0 where
  pub behind : List Mark
  pub before : List Mark
  pub order : Mark
  pub told : Mark
  pub life_is : life ≡ behind ++ order ∷ told ∷ before
  pub heard_is : heard ≡ behind ++ told ∷ order ∷ before
  pub is_order : is_read order ≡ true
  pub is_line : is_said told ≡ true

-- so, one after the other, this number of times
abbrev pub HeardSoonerTimes : ℕ → List Mark → List Mark → Type 0
HeardSoonerTimes zero life heard = life ≡ heard
HeardSoonerTimes (suc n) life heard =
    (between : List Mark) × IsOrderHeardSooner life between × HeardSoonerTimes n between heard

-- No line of a log is blamed.
abbrev pub IsFaultless : Listener → List Entry → Type 0
IsFaultless listener [] = Unit {0}
IsFaultless listener (entry ∷ log) =
    IsFaultless listener log × (first_broken (conduct listener log) entry.mark ≡ None)

-- the marks of a log
abbrev pub log_marks : List Entry → List Mark
log_marks log = map (λ (entry : Entry). entry.mark) log

-- In no log of an innocent engine is a line blamed, however much sooner its orders are heard than
-- read. (A log has fewer lines than the last number that counts them.)
abbrev pub NoInnocentIsBlamed : Type 0
NoInnocentIsBlamed =
    (listener : Listener) (life : List Mark) (n : ℕ) (heard : List Mark) (log : List Entry)
    → IsInnocent listener life → HeardSoonerTimes n life heard → log_marks log ≡ heard
    → length life < LAST_NUMBER
    → IsFaultless listener log
