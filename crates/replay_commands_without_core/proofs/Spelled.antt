-- Each line of a script is one of a script.
use Rattle.std.proofs.Common.{◌≡◌, ℕ, ℤ, zero, suc, ◌+◌, ◌/◌, ◌%◌, ◌≤◌, List, [], ◌∷◌, ◌++◌, map, length, Bool, true, false, not, cond, ◌&&◌, ◌==◌, nat_le, decimal, Option, Some, None, refl, ap, sym, subst, arith, append_assoc, length-append}
use Rattle.std.specs.Prelude.{codes, pos, negsuc}
use Rattle.std.specs.List.{AllByRecursion, onto_first}
use Rattle.std.specs.Fmt.{digit_glyph, digits, digits_onto, signed_decimal}
use Rattle.std.proofs.lemmas.Bool.{or_from}
use Rattle.std.proofs.lemmas.Bool.Decides.{nat_tests}
use Rattle.line_io.specs.Event.{Event, Iface, IfaceEnd, Engine, EngineEnd, has_feed}
use Rattle.line_io.specs.Lines.{is_feed, parts_by_feed}
use Rattle.chess_board.specs.declared.board.Move.{Move}
use Rattle.chess_board.specs.Text.{text_of_move}
use Rattle.chess_board.proofs.TextLengths.{move_length}
use Rattle.fen_text.specs.Written.{position_fen}
use Rattle.fen_text.proofs.Lengths.{length-written}
use Rattle.game_record.specs.Game.{Game}
use Rattle.game_record.specs.Line.{ply_text}
use Rattle.script_lines.specs.Marks.{Happens, IsMarkSpelled, Mark, ToEngine, ToIface}
use Rattle.script_lines.specs.Scripts.{MarksAreSpelled}
use Rattle.driver_state_machine.specs.declared.words.Thought.{Thought}
use Rattle.std.proofs.lemmas.List.{length-map}
use Rattle.driver_state_machine.specs.Lines.{DownLine, XBoard, Protover, Quit, New, Force, Post, SetBoard, Played, St, Level, Time, Otim, Sd, Go, Analyze, OrderMoveNow, Exit, Ping, Accepted, Rejected, bestmove_line_text, info_text, driver_line_text, lines_text, driver_move_text, blanked_byte, blanked_text, id_text, name_or_usual}
use Rattle.cecp_driver.specs.declared.driver.DriverParts.{DriverParts}
use Rattle.cecp_driver.specs.Driver.{opening_driver}
use Rattle.cecp_driver.specs.EngineGame.{AllOn}
use Rattle.cecp_driver.specs.Runs.{AllGiven, BestMove, NameIsOneLine, IsScriptOfDrive, Named, ReadyOk, Reports, UciOk, UpLine, game_asked, up_line_text, up_lines_text}
use Rattle.cecp_driver.specs.Said.{EngineLineCanBeRead}
use Rattle.cecp_driver.specs.Script.{DriverEventGives, DriverTakesAll, IsPeerLine, marks_given, script_marks}

-- NO PART HAS A LINE FEED

abbrev AreBare : List (List ℕ) → Type 0
AreBare ps = AllByRecursion (λ p. has_feed p ≡ false) ps

onto_bare : (x : ℕ) (ps : List (List ℕ)) → is_feed x ≡ false → AreBare ps → AreBare (onto_first x ps)
onto_bare x [] e b = (or_from (is_feed x) false e refl, tt)
onto_bare x (p ∷ ps) e b = (or_from (is_feed x) (has_feed p) e b.0, b.1)

bare_next : (x : ℕ) (ps : List (List ℕ)) (v : Bool) → is_feed x ≡ v → AreBare ps → AreBare (cond v ([] ∷ ps) (onto_first x ps))
bare_next x ps true e b = (refl, b)
bare_next x ps false e b = onto_bare x ps e b

bare_parts : (xs : List ℕ) → AreBare (parts_by_feed xs)
bare_parts [] = tt
bare_parts (x ∷ xs) = bare_next x (parts_by_feed xs) (is_feed x) refl (bare_parts xs)

-- NO PART IS LONG

abbrev AreWithin : List (List ℕ) → Type 0
AreWithin ps = AllByRecursion (λ p. length p ≤ 131070) ps

-- the first part is no longer than this
abbrev Begins : ℕ → List (List ℕ) → Type 0
Begins n [] = ⊥
Begins n (p ∷ ps) = (length p ≤ n) × AreWithin ps

begun_within : (n : ℕ) (ps : List (List ℕ)) → n ≤ 131070 → Begins n ps → AreWithin ps
begun_within n [] l b = absurd b
begun_within n (p ∷ ps) l b = (omega (arith, b.0, l), b.1)

begin_next : (x n : ℕ) (v : Bool) (ps : List (List ℕ)) → n ≤ 131070 → Begins n ps → Begins (suc n) (cond v ([] ∷ ps) (onto_first x ps))
begin_next x n true ps l b = (omega arith, begun_within n ps l b)
begin_next x n false [] l b = absurd b
begin_next x n false (p ∷ ps) l b = (omega (arith, b.0), b.1)

begins : (xs ys : List ℕ) → length xs ≤ 131071 → AreWithin (parts_by_feed ys) → Begins (length xs) (parts_by_feed (xs ++ 10 ∷ ys))
begins [] ys l h = (omega arith, h)
begins (x ∷ xs) ys l h = begin_next x (length xs) (is_feed x) (parts_by_feed (xs ++ 10 ∷ ys)) (omega (arith, l)) (begins xs ys (omega (arith, l)) h)

-- a line and the lines after it
more_within : (text ys : List ℕ) → length text ≤ 131070 → AreWithin (parts_by_feed ys) → AreWithin (parts_by_feed ((text ++ 10 ∷ []) ++ ys))
more_within text ys l h =
    subst (λ (t : List ℕ). AreWithin (parts_by_feed t)) (sym (append_assoc text (10 ∷ []) ys))
    (begun_within (length text) (parts_by_feed (text ++ 10 ∷ ys)) l (begins text ys (omega (arith, l)) h))

-- NUMBERS

few_by : (b : Bool) (m : ℕ) (xs ys : List ℕ) → length xs ≤ m → length ys ≤ m → length (cond b xs ys) ≤ m
few_by true m xs ys h k = h
few_by false m xs ys h k = k

onto_few : (k n : ℕ) (acc : List ℕ) → length (digits_onto k 10 false n acc) ≤ k + length acc
onto_few zero n acc = omega arith
onto_few (suc k) n acc =
    let later : length (digits_onto k 10 false (n / 10) (digit_glyph false (n % 10) ∷ acc)) ≤ suc k + length acc = omega (arith, onto_few k (n / 10) (digit_glyph false (n % 10) ∷ acc)) in
    few_by (n / 10 == 0) (suc k + length acc) (digit_glyph false (n % 10) ∷ acc) (digits_onto k 10 false (n / 10) (digit_glyph false (n % 10) ∷ acc)) (omega arith) later

few : (n : ℕ) → length (decimal n) ≤ 64
unfolding digits
few n = omega (arith, onto_few 64 n [])

few_signed : (z : ℤ) → length (signed_decimal z) ≤ 65
few_signed (pos n) = omega (arith, few n)
few_signed (negsuc n) = omega (arith, few (suc n))

-- pieces of a text, each with the most bytes that it has
joined : (m n : ℕ) (a b : List ℕ) → length a ≤ m → length b ≤ n → length (a ++ b) ≤ m + n
joined m n a b h k = omega (arith, length-append a b, h, k)

-- LINES TO THE INTERFACE

best_few : (best : Option Move) → length (bestmove_line_text best) ≤ 20
best_few None = omega arith
best_few (Some m) = omega (arith, joined 9 5 (codes "bestmove ") (text_of_move m) (omega arith) (move_length m))

info_few : (t : Thought) → length (info_text t) ≤ 400
info_few t =
    let a : List ℕ = codes "info depth " ++ decimal t.depth in
    let b : List ℕ = codes " score cp " ++ signed_decimal t.score in
    let c : List ℕ = codes " time " ++ decimal t.time in
    let d : List ℕ = codes " nodes " ++ decimal t.nodes in
    let e : List ℕ = codes " pv " ++ text_of_move t.best in
    let depth : length a ≤ 75 = joined 11 64 (codes "info depth ") (decimal t.depth) (omega arith) (few t.depth) in
    let score : length b ≤ 75 = joined 10 65 (codes " score cp ") (signed_decimal t.score) (omega arith) (few_signed t.score) in
    let time : length c ≤ 70 = joined 6 64 (codes " time ") (decimal t.time) (omega arith) (few t.time) in
    let nodes : length d ≤ 71 = joined 7 64 (codes " nodes ") (decimal t.nodes) (omega arith) (few t.nodes) in
    let move : length e ≤ 9 = joined 4 5 (codes " pv ") (text_of_move t.best) (omega arith) (move_length t.best) in
    let figures : length (a ++ (b ++ (c ++ d))) ≤ 291 = joined 75 216 a (b ++ (c ++ d)) depth (joined 75 141 b (c ++ d) score (joined 70 71 c d time nodes)) in
    let all : length ((a ++ (b ++ (c ++ d))) ++ e) ≤ 300 = joined 291 9 (a ++ (b ++ (c ++ d))) e figures move in
    omega (arith, all)

called_few : (name : List ℕ) → length name ≤ 65536 → length (name_or_usual name) ≤ 65536
called_few [] h = omega arith
called_few (b ∷ bs) h = h

named_few : (name : List ℕ) → length name ≤ 65536 → length (id_text name) ≤ 131070
named_few name h =
    let same = length-map (name_or_usual name) blanked_byte in
    let few = called_few name h in
    omega (arith, joined 8 65536 (codes "id name ") (blanked_text (name_or_usual name)) (omega arith) (omega (arith, same, few)))

up_within : (line : UpLine) (rest : List ℕ) → NameIsOneLine line → AreWithin (parts_by_feed rest) → AreWithin (parts_by_feed (up_line_text line ++ rest))
up_within ReadyOk rest i h = more_within (codes "readyok") rest (omega arith) h
up_within UciOk rest i h = more_within (codes "uciok") rest (omega arith) h
up_within (Named name) rest i h =
    more_within (id_text name) rest (named_few name i.1) h
up_within (Reports thought) rest i h = more_within (info_text thought) rest (omega (arith, info_few thought)) h
up_within (BestMove best) rest i h = more_within (bestmove_line_text best) rest (omega (arith, best_few best)) h

ups_within : (lines : List UpLine) → AllByRecursion NameIsOneLine lines → AreWithin (parts_by_feed (up_lines_text lines))
ups_within [] i = tt
ups_within (l ∷ ls) i = up_within l (up_lines_text ls) i.0 (ups_within ls i.1)

-- LINES TO THE ENGINE

move_few : (has_usermove : Bool) (text : List ℕ) → length text ≤ 5 → length (driver_move_text has_usermove text) ≤ 14
move_few true text h = omega (arith, joined 9 5 (codes "usermove ") text (omega arith) h)
move_few false text h = omega (arith, h)

abbrev level_prefix : ℕ → ℕ → ℕ → List ℕ
level_prefix k s i = codes "level " ++ (decimal k ++ (codes " " ++ (decimal (s / 60) ++ (codes ":" ++ (((48 + s % 60 / 10) ∷ (48 + s % 60 % 10) ∷ []) ++ (codes " " ++ decimal i))))))

level_few : (k s i : ℕ) → length (level_prefix k s i) ≤ 203
level_few k s i =
    let seconds : List ℕ = (48 + s % 60 / 10) ∷ (48 + s % 60 % 10) ∷ [] in
    let e : List ℕ = codes " " ++ decimal i in
    let d : List ℕ = codes ":" ++ seconds ++ e in
    let c : List ℕ = decimal (s / 60) ++ d in
    let b : List ℕ = codes " " ++ c in
    let a : List ℕ = decimal k ++ b in
    let last : length e ≤ 65 = joined 1 64 (codes " ") (decimal i) (omega arith) (few i) in
    let colon : length d ≤ 68 = joined 1 67 (codes ":") (seconds ++ e) (omega arith) (joined 2 65 seconds e (omega arith) last) in
    let minutes : length c ≤ 132 = joined 64 68 (decimal (s / 60)) d (few (s / 60)) colon in
    let moves : length a ≤ 197 = joined 64 133 (decimal k) b (few k) (joined 1 132 (codes " ") c (omega arith) minutes) in
    joined 6 197 (codes "level ") a (omega arith) moves

level_whole : (k s i : ℕ) → level_prefix k s i ++ 10 ∷ [] ≡ driver_line_text (Level k s i)
level_whole k s i = by_parts (decimal k) (decimal (s / 60)) ((48 + s % 60 / 10) ∷ (48 + s % 60 % 10) ∷ []) (decimal i)
  where
    by_parts : (a b c d : List ℕ) → (codes "level " ++ (a ++ (codes " " ++ (b ++ (codes ":" ++ (c ++ (codes " " ++ d))))))) ++ 10 ∷ [] ≡ codes "level " ++ a ++ codes " " ++ b ++ codes ":" ++ c ++ codes " " ++ d ++ 10 ∷ []
    by_parts a b c d = simp append_assoc

counted : (word : List ℕ) (n : ℕ) → length word ≤ 20 → length (word ++ decimal n) ≤ 131070
counted word n h = omega (arith, joined 20 64 word (decimal n) h (few n))

down_within : (line : DownLine) (rest : List ℕ) → EngineLineCanBeRead line → AreWithin (parts_by_feed rest) → AreWithin (parts_by_feed (driver_line_text line ++ rest))
down_within XBoard rest s h = more_within (codes "xboard") rest (omega arith) h
down_within Protover rest s h = more_within (codes "protover 2") rest (omega arith) h
down_within Quit rest s h = more_within (codes "quit") rest (omega arith) h
down_within New rest s h = more_within (codes "new") rest (omega arith) h
down_within Force rest s h = more_within (codes "force") rest (omega arith) h
down_within Post rest s h = more_within (codes "post") rest (omega arith) h
down_within (SetBoard p) rest s h = more_within (codes "setboard " ++ position_fen p) rest (omega (arith, joined 9 93 (codes "setboard ") (position_fen p) (omega arith) (length-written p s.0))) h
down_within (Played has_usermove m) rest s h =
    let text : length (ply_text m) ≤ 5 = subst (λ (t : List ℕ). length t ≤ 5) (ap ply_text s.1.0) (move_length s.0) in
    more_within (driver_move_text has_usermove (ply_text m)) rest (omega (arith, move_few has_usermove (ply_text m) text)) h
down_within (St n) rest s h = more_within (codes "st " ++ decimal n) rest (counted (codes "st ") n (omega arith)) h
down_within (Level k n i) rest s h =
    subst (λ (t : List ℕ). AreWithin (parts_by_feed (t ++ rest))) (level_whole k n i) (more_within (level_prefix k n i) rest (omega (arith, level_few k n i)) h)
down_within (Time n) rest s h = more_within (codes "time " ++ decimal n) rest (counted (codes "time ") n (omega arith)) h
down_within (Otim n) rest s h = more_within (codes "otim " ++ decimal n) rest (counted (codes "otim ") n (omega arith)) h
down_within (Sd n) rest s h = more_within (codes "sd " ++ decimal n) rest (counted (codes "sd ") n (omega arith)) h
down_within Go rest s h = more_within (codes "go") rest (omega arith) h
down_within Analyze rest s h = more_within (codes "analyze") rest (omega arith) h
down_within OrderMoveNow rest s h = more_within (codes "?") rest (omega arith) h
down_within Exit rest s h = more_within (codes "exit") rest (omega arith) h
down_within (Ping n) rest s h = more_within (codes "ping " ++ decimal n) rest (counted (codes "ping ") n (omega arith)) h
down_within (Accepted name) rest s h = more_within (codes "accepted " ++ name) rest (omega (arith, joined 9 65536 (codes "accepted ") name (omega arith) s.short)) h
down_within (Rejected name) rest s h = more_within (codes "rejected " ++ name) rest (omega (arith, joined 9 65536 (codes "rejected ") name (omega arith) s.short)) h

downs_within : (lines : List DownLine) → AllByRecursion EngineLineCanBeRead lines → AreWithin (parts_by_feed (lines_text lines))
downs_within [] s = tt
downs_within (l ∷ ls) s = down_within l (lines_text ls) s.0 (downs_within ls s.1)

-- MARKS

both_true : (a b : Bool) → a ≡ true → b ≡ false → (a && not b) ≡ true
both_true true true e f = cc
both_true true false e f = refl
both_true false b e f = cc

up_marks : (ps : List (List ℕ)) → AreBare ps → AreWithin ps → MarksAreSpelled (map ToIface ps)
up_marks [] b w = tt
up_marks (p ∷ ps) b w =
    let short : nat_le (length p) 131070 ≡ true = let few : length p ≤ 131070 = w.0 in grind (arith, nat_tests) in
    (both_true (nat_le (length p) 131070) (has_feed p) short b.0, up_marks ps b.1 w.1)

down_marks : (ps : List (List ℕ)) → AreBare ps → AreWithin ps → MarksAreSpelled (map ToEngine ps)
down_marks [] b w = tt
down_marks (p ∷ ps) b w =
    let short : nat_le (length p) 131070 ≡ true = let few : length p ≤ 131070 = w.0 in grind (arith, nat_tests) in
    (both_true (nat_le (length p) 131070) (has_feed p) short b.0, down_marks ps b.1 w.1)

line_mark : (line : List ℕ) → length line ≤ 65536 → has_feed line ≡ false → (nat_le (length line) 65536 && not (has_feed line)) ≡ true
line_mark line s f = let short : nat_le (length line) 65536 ≡ true = grind (arith, nat_tests) in both_true (nat_le (length line) 65536) (has_feed line) short f

event_mark : (event : Event) (v v' : DriverParts) → DriverEventGives event v v' → IsPeerLine event → IsMarkSpelled (Happens event)
event_mark (Iface line) v v' c i = line_mark line i.0 i.1
event_mark IfaceEnd v v' c i = tt
event_mark (Engine line) v v' c i = line_mark line i.0 i.1
event_mark EngineEnd v v' c i = tt
event_mark event v v' c i = absurd c

all_spelled : (a b : List Mark) → MarksAreSpelled a → MarksAreSpelled b → MarksAreSpelled (a ++ b)
all_spelled [] b h k = k
all_spelled (m ∷ ms) b h k = (h.0, all_spelled ms b h.1 k)

marks_spelled : (v : DriverParts) (asked : Option Game) (gos answers : ℕ) (g : Game) (events : List Event) (after : List DriverParts) → DriverTakesAll v events after → AllGiven v asked gos answers events after → AllOn v g events after
    → MarksAreSpelled (script_marks events after)
marks_spelled v asked gos answers g [] after h given on = tt
marks_spelled v asked gos answers g (event ∷ events) [] h given on = tt
marks_spelled v asked gos answers g (event ∷ events) (v' ∷ later) h given on =
    let gives = given.0 in
    let sets = on.1.0 in
    let ups : AreWithin (parts_by_feed v'.up.text) = subst (λ (t : List ℕ). AreWithin (parts_by_feed t)) (sym gives.written) (ups_within gives.lines gives.one_line) in
    let downs : AreWithin (parts_by_feed v'.down.text) = subst (λ (t : List ℕ). AreWithin (parts_by_feed t)) (sym sets.written) (downs_within sets.lines sets.said) in
    all_spelled (marks_given event v') (script_marks events later) (
      event_mark event v v' h.0.comes h.0.is_line,
      all_spelled (map ToIface (parts_by_feed v'.up.text)) (map ToEngine (parts_by_feed v'.down.text)) (up_marks (parts_by_feed v'.up.text) (bare_parts v'.up.text) ups) (down_marks (parts_by_feed v'.down.text) (bare_parts v'.down.text) downs),
    )
    (marks_spelled v' (game_asked event v asked) _ _ on.0 events later h.1 given.1 on.1.1)

pub script_spelled : (events : List Event) (text : List ℕ) (script : IsScriptOfDrive events text) → MarksAreSpelled (script_marks events script.after)
script_spelled events text script =
    let g = opening_driver.game in
    marks_spelled opening_driver None 0 0 g events script.after script.goes script.sound.given (script.sound.searches g)
