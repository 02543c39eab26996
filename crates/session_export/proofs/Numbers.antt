-- The numbers of the lines of events, and of one line more.
use Rattle.std.proofs.Common.{◌≡◌, ℕ, suc, ◌+◌, List, [], ◌∷◌, ◌++◌, length, reverse, None, refl, sym, ap, ◌∙◌, arith, length-append}
use Rattle.std.proofs.lemmas.List.{length-reverse, reverse-append}
use Rattle.line_io.specs.Event.{Event}
use Rattle.line_io.specs.Lines.{Piece}
use Rattle.adapter_core.specs.Trace.{Step}
use Rattle.trace_scripts.specs.Script.{events}
use Rattle.script_replay.specs.Versions.{Version, ScriptPlace, LineSaid, Comes, Passes, Starts, HasNoMark, IsOutOfStep, Cannot, script_beginning, behind_header, replayed_events, events_said, fault_said, first_fault, header_lines, line_says, place_over, place_said, script_events, script_fault, version_in}
use Rattle.script_replay.proofs.VersionLines.{behind_length, behind_more, no_earlier}
use Rattle.session_export.specs.Exporting.{event_lines, numbers_of, numbers_said}

-- a line by itself
abbrev pub own : ℕ → LineSaid → List ℕ
own n s = numbers_said n s []

said_more : (n : ℕ) (s : LineSaid) (ns ms : List ℕ) → fault_said n s ≡ None → numbers_said n s (ns ++ ms) ≡ numbers_said n s ns ++ ms
said_more n (Comes e) ns ms f = refl
said_more n Passes ns ms f = refl
said_more n (Starts k) ns ms f = refl
said_more n HasNoMark ns ms f = cc
said_more n IsOutOfStep ns ms f = cc
said_more n Cannot ns ms f = cc

numbers_more : (n : ℕ) (place : ScriptPlace) (ls : List Piece) (l : Piece) → first_fault n place ls ≡ None
    → numbers_of n place (ls ++ l ∷ []) ≡ numbers_of n place ls ++ own (n + length ls) (line_says (place_over place ls) l)
numbers_more n place [] l e = ap (λ (k : ℕ). own k (line_says place l)) (let z : n ≡ n + 0 = omega arith in z)
numbers_more n place (x ∷ ls) l e =
    let f = no_earlier (fault_said n (line_says place x)) (first_fault (n + 1) (place_said place (line_says place x)) ls) e in
    ap (numbers_said n (line_says place x))
    (numbers_more (n + 1) (place_said place (line_says place x)) ls l f.1
    ∙ ap (λ (k : ℕ). numbers_of (n + 1) (place_said place (line_says place x)) ls ++ own k (line_says (place_over place (x ∷ ls)) l)) (let z : n + 1 + length ls ≡ n + suc (length ls) = omega arith in z))
    ∙ said_more n (line_says place x) (numbers_of (n + 1) (place_said place (line_says place x)) ls) (own (n + suc (length ls)) (line_says (place_over place (x ∷ ls)) l)) f.0

own_reversed : (n : ℕ) (s : LineSaid) → reverse (own n s) ≡ own n s
own_reversed n (Comes e) = refl
own_reversed n Passes = refl
own_reversed n (Starts k) = refl
own_reversed n HasNoMark = refl
own_reversed n IsOutOfStep = refl
own_reversed n Cannot = refl

-- one line more after lines of this version without a fault: its own number stands first
pub event_lines_more : (v : Version) (lines : List Piece) (piece : Piece) → version_in lines ≡ v → version_in (lines ++ piece ∷ []) ≡ v → script_fault lines ≡ None
    → event_lines (lines ++ piece ∷ []) ≡ own (length lines + 1) (line_says (place_over (script_beginning v) (behind_header v lines)) piece) ++ event_lines lines
event_lines_more v lines piece is same fine =
    let first = 1 + header_lines v in
    let ls = behind_header v lines in
    let says = line_says (place_over (script_beginning v) ls) piece in
    let old = numbers_of first (script_beginning v) ls in
    let count : first + length ls ≡ length lines + 1 = let b = behind_length v lines is in omega (arith, b) in
    let fault : first_fault first (script_beginning v) ls ≡ None = ap (λ (x : Version). first_fault (1 + header_lines x) (script_beginning x) (behind_header x lines)) (sym is) ∙ fine in
    let more : 0 ∷ numbers_of first (script_beginning v) (behind_header v (lines ++ piece ∷ [])) ≡ (0 ∷ old) ++ own (length lines + 1) says =
    ap (λ (x : List Piece). 0 ∷ numbers_of first (script_beginning v) x) (behind_more v lines (piece ∷ []) is)
    ∙ ap (λ (ns : List ℕ). 0 ∷ ns) (numbers_more first (script_beginning v) ls piece fault)
    ∙ ap (λ (k : ℕ). (0 ∷ old) ++ own k says) count in
    ap (λ (x : Version). reverse (0 ∷ numbers_of (1 + header_lines x) (script_beginning x) (behind_header x (lines ++ piece ∷ [])))) same
    ∙ ap reverse more
    ∙ reverse-append (0 ∷ old) (own (length lines + 1) says)
    ∙ ap (λ (ns : List ℕ). ns ++ reverse (0 ∷ old)) (own_reversed (length lines + 1) says)
    ∙ ap (λ (x : Version). own (length lines + 1) says ++ reverse (0 ∷ numbers_of (1 + header_lines x) (script_beginning x) (behind_header x lines))) (sym is)

-- AS MANY AS EVENTS

said_many : (n : ℕ) (s : LineSaid) (ns : List ℕ) (es : List Event) → length ns ≡ length es → length (numbers_said n s ns) ≡ length (events_said s es)
said_many n (Comes e) ns es h = ap suc h
said_many n Passes ns es h = h
said_many n (Starts k) ns es h = h
said_many n HasNoMark ns es h = refl
said_many n IsOutOfStep ns es h = refl
said_many n Cannot ns es h = refl

numbers_many : (n : ℕ) (place : ScriptPlace) (ls : List Piece) → length (numbers_of n place ls) ≡ length (replayed_events place ls)
numbers_many n place [] = refl
numbers_many n place (l ∷ ls) =
    let next = place_said place (line_says place l) in
    said_many n (line_says place l) (numbers_of (n + 1) next ls) (replayed_events next ls) (numbers_many (n + 1) next ls)

events_many : (trace : List Step) → length (events trace) ≡ length trace
events_many [] = refl
events_many (s ∷ t) =
    let a = length-append (events t) (s.event ∷ []) in
    let b = events_many t in
    let z : length (events t ++ s.event ∷ []) ≡ suc (length t) = omega (arith, a, b) in z

-- each step of the session of lines has a number
pub as_many : (lines : List Piece) (trace : List Step) → events trace ≡ script_events lines → length (event_lines lines) ≡ length trace
as_many lines trace is =
    let v = version_in lines in
    let numbers = numbers_of (1 + header_lines v) (script_beginning v) (behind_header v lines) in
    length-reverse (0 ∷ numbers)
    ∙ ap suc (numbers_many (1 + header_lines v) (script_beginning v) (behind_header v lines))
    ∙ sym (ap length is)
    ∙ events_many trace
