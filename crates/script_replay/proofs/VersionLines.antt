-- One line more.
use Rattle.std.proofs.Common.{◌≡◌, ℕ, suc, ◌+◌, List, [], ◌∷◌, ◌++◌, length, Option, Some, None, refl, ap, ◌∙◌, arith, subst}
use Rattle.line_io.specs.Event.{Event}
use Rattle.line_io.specs.Lines.{Piece, Whole, TooLong, items}
use Rattle.replay_command_base.specs.declared.ending.Ending.{Ending}
use Rattle.replay_command_base.specs.Reads.{AreFirst, IsAll}
use Rattle.script_replay.specs.Versions.{Version, First, Second, version_in, behind_header, header_lines, ScriptPlace, LineSaid, Comes, Passes, Starts, HasNoMark, IsOutOfStep, Cannot, line_says, place_said, place_over, fault_said, or_later, first_fault, events_said, replayed_events, script_beginning, fault_by, script_fault}

pub no_earlier : (a b : Option Ending) → or_later a b ≡ None → (a ≡ None) × (b ≡ None)
no_earlier None b e = (refl, e)
no_earlier (Some x) b e = cc

pub place_more : (place : ScriptPlace) (ls : List Piece) (l : Piece) → place_over place (ls ++ l ∷ []) ≡ place_said (place_over place ls) (line_says (place_over place ls) l)
place_more place [] l = refl
place_more place (x ∷ ls) l = place_more (place_said place (line_says place x)) ls l

or_none : (a : Option Ending) → or_later a None ≡ a
or_none None = refl
or_none (Some x) = refl

-- where none of the lines is a fault, the next line may be one
pub fault_more : (n : ℕ) (place : ScriptPlace) (ls : List Piece) (l : Piece) → first_fault n place ls ≡ None → first_fault n place (ls ++ l ∷ []) ≡ fault_said (n + length ls) (line_says (place_over place ls) l)
fault_more n place [] l e = or_none (fault_said n (line_says place l)) ∙ ap (λ k. fault_said k (line_says place l)) (let z : n ≡ n + 0 = omega arith in z)
fault_more n place (x ∷ ls) l e =
    let f = no_earlier (fault_said n (line_says place x)) (first_fault (n + 1) (place_said place (line_says place x)) ls) e in
    ap (λ a. or_later a (first_fault (n + 1) (place_said place (line_says place x)) (ls ++ l ∷ []))) f.0
    ∙ fault_more (n + 1) (place_said place (line_says place x)) ls l f.1
    ∙ ap (λ k. fault_said k (line_says (place_over place (x ∷ ls)) l)) (let z : n + 1 + length ls ≡ n + suc (length ls) = omega arith in z)

pub said_more : (n : ℕ) (s : LineSaid) (es fs : List Event) → fault_said n s ≡ None → events_said s (es ++ fs) ≡ events_said s es ++ fs
said_more n (Comes e) es fs f = refl
said_more n Passes es fs f = refl
said_more n (Starts number) es fs f = refl
said_more n HasNoMark es fs f = cc
said_more n IsOutOfStep es fs f = cc
said_more n Cannot es fs f = cc

pub events_more : (n : ℕ) (place : ScriptPlace) (ls : List Piece) (l : Piece) → first_fault n place ls ≡ None → replayed_events place (ls ++ l ∷ []) ≡ replayed_events place ls ++ events_said (line_says (place_over place ls) l) []
events_more n place [] l e = refl
events_more n place (x ∷ ls) l e =
    let f = no_earlier (fault_said n (line_says place x)) (first_fault (n + 1) (place_said place (line_says place x)) ls) e in
    ap (events_said (line_says place x)) (events_more (n + 1) (place_said place (line_says place x)) ls l f.1)
    ∙ said_more n (line_says place x) (replayed_events (place_said place (line_says place x)) ls) (events_said (line_says (place_over place (x ∷ ls)) l) []) f.0

-- a first fault stays the first, whatever lines follow
pub fault_stays : (n : ℕ) (place : ScriptPlace) (ls ms : List Piece) (f : Ending) → first_fault n place ls ≡ Some f → first_fault n place (ls ++ ms) ≡ Some f
fault_stays n place [] ms f e = cc
fault_stays n place (x ∷ ls) ms f e = stays (fault_said n (line_says place x)) (first_fault (n + 1) (place_said place (line_says place x)) ls) (first_fault (n + 1) (place_said place (line_says place x)) (ls ++ ms)) e (fault_stays (n + 1) (place_said place (line_says place x)) ls ms f) where
  stays : (a b c : Option Ending) → or_later a b ≡ Some f → (b ≡ Some f → c ≡ Some f) → or_later a c ≡ Some f
  stays None b c e i = i e
  stays (Some y) b c e i = e

-- THE VERSION

-- the first line states the version
pub version_stays : (l : Piece) (ls ms : List Piece) → version_in ((l ∷ ls) ++ ms) ≡ version_in (l ∷ ls)
version_stays (Whole line) ls ms = refl
version_stays TooLong ls ms = refl

-- lines with a header after which others stand
pub behind_more : (v : Version) (ls ms : List Piece) → version_in ls ≡ v → behind_header v (ls ++ ms) ≡ behind_header v ls ++ ms
behind_more First ls ms e = refl
behind_more (Second settings) [] ms e = cc
behind_more (Second settings) (l ∷ ls) ms e = refl

pub behind_length : (v : Version) (ls : List Piece) → version_in ls ≡ v → header_lines v + length (behind_header v ls) ≡ length ls
behind_length First ls e = let z : 0 + length ls ≡ length ls = omega arith in z
behind_length (Second settings) [] e = cc
behind_length (Second settings) (l ∷ ls) e = let z : 1 + length ls ≡ suc (length ls) = omega arith in z

-- where the first lines state the version and have a fault, it is that of all
pub script_fault_stays : (ls ms : List Piece) (f : Ending) → fault_by (version_in ls) ls ≡ Some f → fault_by (version_in (ls ++ ms)) (ls ++ ms) ≡ Some f
script_fault_stays [] ms f e = cc
script_fault_stays (l ∷ ls) ms f e =
    let v = version_in (l ∷ ls) in
    ap (λ (x : Version). fault_by x ((l ∷ ls) ++ ms)) (version_stays l ls ms)
    ∙ ap (first_fault (1 + header_lines v) (script_beginning v)) (behind_more v (l ∷ ls) ms refl)
    ∙ fault_stays (1 + header_lines v) (script_beginning v) (behind_header v (l ∷ ls)) ms f e

pub not_none : (a : Option Ending) (f : Ending) → a ≡ None → a ≡ Some f → ⊥
not_none None f u v = cc
not_none (Some g) f u v = cc

pub one_fault : (a : Option Ending) (f g : Ending) → a ≡ Some f → a ≡ Some g → f ≡ g
one_fault None f g u v = cc
one_fault (Some h) f g u v = cc

-- the first fault of the input is that of its first lines
pub same_fault : (l0 : Option (List ℕ)) (lines : List Piece) (x : List ℕ) (f : Ending) → AreFirst l0 lines → l0 ≡ Some x → script_fault lines ≡ Some f → script_fault (items 131072 x) ≡ Some f
same_fault l0 lines x f a e i =
    let first = subst (λ (l : Option (List ℕ)). AreFirst l lines) e a in
    ap script_fault first.1 ∙ script_fault_stays lines first.0 f i

pub no_fault : (l0 : Option (List ℕ)) (got x : List ℕ) → IsAll l0 got → l0 ≡ Some x → script_fault (items 131072 got) ≡ None → script_fault (items 131072 x) ≡ None
no_fault l0 got x a e n = ap (λ (l : List ℕ). script_fault (items 131072 l)) (subst (λ (l : Option (List ℕ)). IsAll l got) e a) ∙ n
