-- The answers of a script, by their words.
use Rattle.std.specs.Prelude.{ℕ, ◌+◌, ◌-◌, List, [], ◌∷◌, ◌++◌, length}
use Rattle.std.specs.Prelude.{if◌then◌else◌, nat_lt, slice_get, map}
use Rattle.std.specs.Option.{option_map_or}
use Rattle.std.specs.Str.{bytes_eq}
use Rattle.std.specs.Global.{Vec}
use Rattle.std.specs.Vec.{vec_items}
use Rattle.scripted_engine.specs.Blocks.{Block}

-- the answers for one word, and which comes next
pub record Queue : Type 0 where
  pub answers : List (List ℕ)
  pub next : ℕ

abbrev pub none : Queue
none = record { answers = []; next = 0 }

abbrev pub queue_with_text : Queue → List ℕ → Queue
queue_with_text q text = record { answers = q.answers ++ text ∷ []; next = q.next }

-- the next answer is that after this one, and the last one stays
abbrev pub queue_at_next : Queue → Queue
queue_at_next q = record {
  answers = q.answers;
  next = if nat_lt 1 (length q.answers - q.next) then q.next + 1 else q.next;
}

abbrev pub queued_text_at : Queue → ℕ → List ℕ
queued_text_at q at = option_map_or (λ t. t) (slice_get q.answers at) []

-- the words, and of each its answers
pub record ScriptedAnswers : Type 0 where
  pub words : List (List ℕ)
  pub queues : List Queue

-- the answers for a word
abbrev pub find : List ℕ → List (List ℕ) → List Queue → Queue
find word [] queues = none
find word (w ∷ ws) [] = none
find word (w ∷ ws) (q ∷ qs) = if bytes_eq word w then q else find word ws qs

-- the same, once a block was added
abbrev pub find_with : Block → List ℕ → List (List ℕ) → List Queue → Queue
find_with block word words queues =
    if bytes_eq block.word word then queue_with_text (find word words queues) block.answer
    else find word words queues

-- the words of a set
abbrev pub names : List (Vec ℕ) → List (List ℕ)
names keys = map (λ k. vec_items k) keys
