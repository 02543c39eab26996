-- The part that is cut off the front, and then the rest.
use Rattle.std.proofs.Common.{◌≡◌, ℕ, List, [], ◌∷◌, ◌++◌, length, ◌+◌, ◌*◌, ◌≤◌, Option, Some, None, IfSome, refl, sym, ap, ◌∙◌, append_assoc, append-nil, arith}
use Rattle.line_io.specs.Out.{Text, with}
use Rattle.driver_state_machine.specs.Parts.{Feature, CutFeature, onto, FitsIn, IsNamed}
use Rattle.driver_state_machine.specs.Lines.{DownLine, driver_line_text, lines_text}
use Rattle.cecp_driver.specs.declared.features.HasFeatures.{HasFeatures}
use Rattle.cecp_driver.specs.Features.{has_after, name_after, answer_line, greeting, has_all, name_all, feature_answers, greetings, feature_weight, weight_by}

pub has_onto : (p : Option Feature) (h : HasFeatures) (fs : List Feature) → has_all h (onto p fs) ≡ has_all (has_all h (onto p [])) fs
has_onto None h fs = refl
has_onto (Some f) h fs = refl

pub name_onto : (p : Option Feature) (name : List ℕ) (fs : List Feature) → name_all name (onto p fs) ≡ name_all (name_all name (onto p [])) fs
name_onto None name fs = refl
name_onto (Some f) name fs = refl

pub greetings_onto : (p : Option Feature) (h : HasFeatures) (name : List ℕ) (fs : List Feature) → greetings h name (onto p fs) ≡ greetings h name (onto p []) ++ greetings (has_all h (onto p [])) (name_all name (onto p [])) fs
greetings_onto None h name fs = refl
greetings_onto (Some f) h name fs = ap (λ (x : List ℕ). x ++ greetings (has_after h f) (name_after name f) fs) (sym (append-nil (greeting h name f)))

pub answers_onto : (p : Option Feature) (fs : List Feature) → lines_text (feature_answers (onto p fs)) ≡ lines_text (feature_answers (onto p [])) ++ lines_text (feature_answers fs)
answers_onto None fs = refl
answers_onto (Some f) fs = ap (λ (x : List ℕ). x ++ lines_text (feature_answers fs)) (sym (append-nil (driver_line_text (answer_line f))))

pub weighs : (text : List ℕ) (p : Option Feature) (rest : List ℕ) → length rest ≤ length text → FitsIn text (record { part = p; rest = rest }) → weight_by p rest ≤ length text
weighs text None rest h f = h
weighs text (Some g) rest h f = omega arith

-- ONE STEP OF THE LOOP OVER A LINE

pub has_step : (p : Option Feature) (h h' : HasFeatures) (fs all : List Feature) (whole : HasFeatures) → all ≡ onto p fs → h' ≡ has_all h (onto p []) → has_all h all ≡ whole → has_all h' fs ≡ whole
has_step p h h' fs all whole ea eh ew = ap (λ (x : HasFeatures). has_all x fs) eh ∙ sym (has_onto p h fs) ∙ ap (has_all h) (sym ea) ∙ ew

pub name_step : (p : Option Feature) (n n' : List ℕ) (fs all : List Feature) (whole : List ℕ) → all ≡ onto p fs → n' ≡ name_all n (onto p []) → name_all n all ≡ whole → name_all n' fs ≡ whole
name_step p n n' fs all whole ea en ew = ap (λ (x : List ℕ). name_all x fs) en ∙ sym (name_onto p n fs) ∙ ap (name_all n) (sym ea) ∙ ew

pub up_step : (p : Option Feature) (h h' : HasFeatures) (n n' : List ℕ) (u u' : Text) (fs all : List Feature) (whole : List ℕ) → all ≡ onto p fs → h' ≡ has_all h (onto p []) → n' ≡ name_all n (onto p [])
    → u' ≡ with u (greetings h n (onto p [])) → u.text ++ greetings h n all ≡ whole → u'.text ++ greetings h' n' fs ≡ whole
up_step p h h' n n' u u' fs all whole ea eh en eu ew =
    ap (λ (t : Text). t.text ++ greetings h' n' fs) eu
    ∙ ap (λ (x : HasFeatures). (u.text ++ greetings h n (onto p [])) ++ greetings x n' fs) eh
    ∙ ap (λ (x : List ℕ). (u.text ++ greetings h n (onto p [])) ++ greetings (has_all h (onto p [])) x fs) en
    ∙ append_assoc u.text (greetings h n (onto p [])) (greetings (has_all h (onto p [])) (name_all n (onto p [])) fs)
    ∙ ap (λ (x : List ℕ). u.text ++ x) (sym (greetings_onto p h n fs))
    ∙ ap (λ (x : List Feature). u.text ++ greetings h n x) (sym ea) ∙ ew

pub down_step : (p : Option Feature) (d d' : Text) (fs all : List Feature) (whole : List ℕ) → all ≡ onto p fs → d' ≡ with d (lines_text (feature_answers (onto p []))) → d.text ++ lines_text (feature_answers all) ≡ whole → d'.text ++ lines_text (feature_answers fs) ≡ whole
down_step p d d' fs all whole ea ed ew =
    ap (λ (t : Text). t.text ++ lines_text (feature_answers fs)) ed
    ∙ append_assoc d.text (lines_text (feature_answers (onto p []))) (lines_text (feature_answers fs))
    ∙ ap (λ (x : List ℕ). d.text ++ x) (sym (answers_onto p fs))
    ∙ ap (λ (x : List Feature). d.text ++ lines_text (feature_answers x)) (sym ea) ∙ ew

pub value_within : (text : List ℕ) (p : Option Feature) (rest : List ℕ) (room : ℕ) → FitsIn text (record { part = p; rest = rest }) → length text ≤ room → IfSome p (λ f. length f.value ≤ room)
value_within text None rest room f h = tt
value_within text (Some g) rest room f h = omega arith

pub down_within : (text : List ℕ) (p : Option Feature) (rest : List ℕ) (d room : ℕ) → FitsIn text (record { part = p; rest = rest }) → IsNamed (record { part = p; rest = rest }) → d + 6 * length text ≤ room → IfSome p (λ f. d + length f.name + 10 ≤ room)
down_within text None rest d room f n h = tt
down_within text (Some g) rest d room f n h = omega arith
