-- Scripts of version 2: their lines, and what they tell.
use Rattle.std.proofs.Common.{◌≡◌, ◌⊎◌, inl, inr, true, ℕ, List, [], ◌∷◌, ◌++◌, length, Some, refl, ap, sym, ◌∙◌, subst, arith, length-append, append_assoc, append-nil}
use Rattle.line_io.specs.Event.{Event, Open}
use Rattle.line_io.specs.Lines.{parts_by_feed}
use Rattle.policy_rules.specs.declared.setting_rules.settings.Settings.{Settings}
use Rattle.policy_rules.specs.SettingRules.Policy.{IsProper}
use Rattle.script_lines.specs.Marks.{mark_spelled}
use Rattle.script_lines.specs.Header.{header_text, header_of}
use Rattle.script_lines.specs.StepLine.{step_number_line, step_number}
use Rattle.script_lines.proofs.Scripts.{parts_line}
use Rattle.script_lines.proofs.Numerals.{number_below}
use Rattle.script_lines.proofs.Headers.{header_again, header_words}
use Rattle.script_lines.proofs.KindLemmas.{step_fed, header_fed}
use Rattle.adapter_core.specs.Ends.{may}
use Rattle.adapter_core.specs.Trace.{Step, LawfulTrace, state, iface_text, engine_text}
use Rattle.adapter_core.specs.Represents.{IsOneDialogue}
use Rattle.trace_scripts.specs.OneWay.{IsOpened, HasOneTrace, HasOneSession}
use Rattle.trace_scripts.specs.Script.{step_text, script1, numbered_texts, script2, marked_events, script_events_in}
use Rattle.trace_scripts.proofs.Lines.{written_lines, event_lines, step_lines, step_parts, AreMarked, script1_lines}
use Rattle.trace_scripts.proofs.Scripts.{marked_both, later_events, step_marked, script_marked, all_marked, some_opened, events_later, same_trace}

-- THE LINES

-- the line that numbers step k
abbrev pub number_line : ℕ → List ℕ
number_line k = step_number_line (step_number k)

-- the lines of the numbered steps, the oldest first
abbrev pub numbered_lines : List Step → List (List ℕ)
numbered_lines [] = []
numbered_lines (s ∷ t) = numbered_lines t ++ number_line (length t) ∷ step_lines s

numbered_parts : (t : List Step) (ys : List ℕ) → AreMarked t → parts_by_feed (numbered_texts t ++ ys) ≡ numbered_lines t ++ parts_by_feed ys
numbered_parts [] ys a = refl
numbered_parts (s ∷ t) ys a =
    let line = number_line (length t) in
    ap parts_by_feed (append_assoc (numbered_texts t) (line ++ 10 ∷ step_text s) ys)
    ∙ numbered_parts t ((line ++ 10 ∷ step_text s) ++ ys) a.1
    ∙ ap (λ ps. numbered_lines t ++ ps)
    (ap parts_by_feed (append_assoc line (10 ∷ step_text s) ys)
    ∙ parts_line line (step_text s ++ ys) (step_fed (step_number (length t)) (number_below (length t)))
    ∙ ap (λ ps. line ∷ ps) (step_parts s ys a.0))
    ∙ sym (append_assoc (numbered_lines t) (line ∷ step_lines s) (parts_by_feed ys))

-- the lines of a script of version 2
abbrev pub lines_of2 : Settings → List Step → List (List ℕ)
lines_of2 o t = header_text o ∷ numbered_lines t

pub script2_lines : (o : Settings) (t : List Step) → IsProper o → AreMarked t → parts_by_feed (script2 o t) ≡ lines_of2 o t
script2_lines o t p a =
    parts_line (header_text o) (numbered_texts t) (header_fed o p)
    ∙ ap (λ ls. header_text o ∷ ls) (ap parts_by_feed (sym (append-nil (numbered_texts t))) ∙ numbered_parts t [] a ∙ append-nil (numbered_lines t))

-- WHAT THEY TELL

-- a header and a step line mark no event
pub header_quiet : (o : Settings) → marked_events (mark_spelled (header_text o)) ≡ []
header_quiet o = ap (λ l. marked_events (mark_spelled l)) (header_words o)

pub numbered_marked : (t : List Step) → AreMarked t → script_events_in (numbered_lines t) ≡ later_events t
numbered_marked [] a = refl
numbered_marked (s ∷ t) a =
    marked_both (numbered_lines t) (number_line (length t) ∷ step_lines s)
    ∙ ap (λ es. es ++ script_events_in (step_lines s)) (numbered_marked t a.1)
    ∙ ap (λ es. later_events t ++ es) (step_marked s a.0)

-- a script of version 2 tells the events of its trace
pub script2_marked : (o : Settings) (t : List Step) → AreMarked t → script_events_in (lines_of2 o t) ≡ later_events t
script2_marked o t a = ap (λ es. es ++ script_events_in (numbered_lines t)) (header_quiet o) ∙ numbered_marked t a

-- WHAT A LONGER TRACE ADDS

-- the lines that newer steps add
abbrev pub numbered_added : List Step → List Step → List (List ℕ)
numbered_added [] t = []
numbered_added (s ∷ newer) t = numbered_added newer t ++ number_line (length (newer ++ t)) ∷ step_lines s

pub numbered_lines_added : (newer t : List Step) → numbered_lines (newer ++ t) ≡ numbered_lines t ++ numbered_added newer t
numbered_lines_added [] t = sym (append-nil (numbered_lines t))
numbered_lines_added (s ∷ newer) t =
    let last = number_line (length (newer ++ t)) ∷ step_lines s in
    ap (λ ls. ls ++ last) (numbered_lines_added newer t) ∙ append_assoc (numbered_lines t) (numbered_added newer t) last

-- the first lines that it adds are the line with the next number, and the mark of an event that may come
pub record NextNumbered (o : Settings) (t : List Step) (more : List (List ℕ)) : Type 0 where
  pub event : Event
  pub may_come : may (state o t).ends event ≡ true
  pub others : List (List ℕ)
  pub lines_are : more ≡ number_line (length t) ∷ (event_lines event ++ others)

pub next_numbered : (o : Settings) (newer t : List Step) → LawfulTrace o (newer ++ t) → (newer ≡ []) ⊎ NextNumbered o t (numbered_added newer t)
next_numbered o [] t l = inl refl
next_numbered o (s ∷ newer) t l = by (next_numbered o newer t l.0) where
  by : (newer ≡ []) ⊎ NextNumbered o t (numbered_added newer t) → (s ∷ newer ≡ []) ⊎ NextNumbered o t (numbered_added newer t ++ number_line (length (newer ++ t)) ∷ step_lines s)
  by (inl none) = inr (record {
    event = s.event;
    may_come = ap (λ (x : List Step). may (state o (x ++ t)).ends s.event) (sym none) ∙ l.1.may_come;
    others = written_lines (iface_text s) (engine_text s);
    lines_are = ap (λ (x : List Step). numbered_added x t ++ number_line (length (x ++ t)) ∷ step_lines s) none;
  })
  by (inr n) = inr (record {
    event = n.event;
    may_come = n.may_come;
    others = n.others ++ number_line (length (newer ++ t)) ∷ step_lines s;
    lines_are =
        ap (λ ls. ls ++ number_line (length (newer ++ t)) ∷ step_lines s) n.lines_are
        ∙ ap (λ ls. number_line (length t) ∷ ls) (append_assoc (event_lines n.event) n.others (number_line (length (newer ++ t)) ∷ step_lines s));
  })

-- ONE WAY

marked_by1 : (o : Settings) (t : List Step) → LawfulTrace o t → script_events_in (parts_by_feed (script1 t)) ≡ later_events t
marked_by1 o t l = ap script_events_in (script1_lines t (all_marked o t l)) ∙ script_marked t (all_marked o t l)

same_by_events : (o : Settings) → IsOneDialogue o → (t t' : List Step) → LawfulTrace o t → LawfulTrace o t' → IsOpened o t → IsOpened o t' → later_events t ≡ later_events t' → t ≡ t'
same_by_events o one t t' l l' p p' e =
    same_trace o one t t' l l' (events_later o t l p ∙ ap (λ (es : List Event). Open ∷ es) e ∙ sym (events_later o t' l' p'))

pub one_trace : (o : Settings) → IsOneDialogue o → HasOneTrace o
one_trace o one t t' l l' p p' e =
    same_by_events o one t t' l l' p p' (sym (marked_by1 o t l) ∙ ap (λ s. script_events_in (parts_by_feed s)) e ∙ marked_by1 o t' l')

some_same : (x y : Settings) → Some x ≡ Some y → x ≡ y
some_same x y e = cc

heads : (a b : List ℕ) (x y : List (List ℕ)) → a ∷ x ≡ b ∷ y → a ≡ b
heads a b x y e = cc

tails : (a b : List ℕ) (x y : List (List ℕ)) → a ∷ x ≡ b ∷ y → x ≡ y
tails a b x y e = cc

-- a step has a line
some_line : (s : Step) (t : List Step) → [] ≡ numbered_lines (s ∷ t) → ⊥
some_line s t e =
    let n : 0 ≡ length (numbered_lines t ++ number_line (length t) ∷ step_lines s) = ap length e in
    omega (arith, length-append (numbered_lines t) (number_line (length t) ∷ step_lines s))

same_numbered : (o : Settings) → IsOneDialogue o → (t t' : List Step) → LawfulTrace o t → LawfulTrace o t' → numbered_lines t ≡ numbered_lines t' → t ≡ t'
same_numbered o one [] [] l l' e = refl
same_numbered o one [] (s ∷ t') l l' e = absurd (some_line s t' e)
same_numbered o one (s ∷ t) [] l l' e = absurd (some_line s t (sym e))
same_numbered o one (s ∷ t) (s' ∷ t') l l' e =
    same_by_events o one (s ∷ t) (s' ∷ t') l l' (some_opened o s t l) (some_opened o s' t' l')
    (sym (numbered_marked (s ∷ t) (all_marked o (s ∷ t) l)) ∙ ap script_events_in e ∙ numbered_marked (s' ∷ t') (all_marked o (s' ∷ t') l'))

pub one_session : (o : Settings) → IsOneDialogue o → HasOneSession o
one_session o one o' t t' p p' l l' e =
    let lines = sym (script2_lines o t p (all_marked o t l)) ∙ ap parts_by_feed e ∙ script2_lines o' t' p' (all_marked o' t' l') in
    let header = heads (header_text o) (header_text o') (numbered_lines t) (numbered_lines t') lines in
    let same : o ≡ o' = some_same o o' (sym (header_again o p) ∙ ap header_of header ∙ header_again o' p') in
    let l'' = subst (λ (x : Settings). LawfulTrace x t') (sym same) l' in
    (same, same_numbered o one t t' l l'' (tails (header_text o) (header_text o') (numbered_lines t) (numbered_lines t') lines))
