-- The texts of answers.
use Rattle.std.specs.Prelude.{ℕ, Bool, true, false, List, [], ◌∷◌, ◌++◌, codes, decimal, Option, Some, None}
use Rattle.dine_serve.specs.Words.{Call, Entry, Task, Table, state_of, next_ready_of, neighbours_if_present, blockers_if_present, ready_of, reply_of, entry_text, task_text, state_or_none, task_or_none, tasks_or_none, LineFault, RequestAnswer, Made, Cancelled, Waits, Question}
use Rattle.dine_serve.specs.declared.request_fault.LineFault.TheVariants as fault
use Rattle.dine_serve.specs.declared.request.Question.TheVariants as question

-- ---- what a question is answered

-- a space and a name for each task, or that there is none
abbrev pub listed_or_none : Option (List Task) → List ℕ
listed_or_none None = codes " none"
listed_or_none (Some []) = codes " none"
listed_or_none (Some (t ∷ ts)) = tasks_or_none (Some (t ∷ ts))

-- the answer to a question, in a table
abbrev pub answer_of : Table → Question → List ℕ
answer_of table (question.State t) = codes "state " ++ state_or_none (state_of table t)
answer_of table (question.Neighbours t) = codes "neighbours" ++ tasks_or_none (neighbours_if_present table t)
answer_of table (question.Blockers t) = codes "blockers" ++ listed_or_none (blockers_if_present table t)
answer_of table question.Ready = codes "ready" ++ listed_or_none (Some (ready_of table))
answer_of table question.Next = codes "next " ++ task_or_none (next_ready_of table)

-- its line, which a filter knows by its first byte
abbrev pub answer_line : Table → Question → List ℕ
answer_line table asked = codes "? " ++ answer_of table asked

-- the task, where it was found
abbrev pub task_if : Bool → Task → List ℕ
task_if true t = task_text t
task_if false t = codes "none"

-- the line that tells whether a begin of the task was taken back
abbrev pub cancelled_line : Bool → Task → List ℕ
cancelled_line found t = codes "? cancelled " ++ task_if found t

-- ---- faults

-- the kind of a fault
abbrev pub line_fault_text : LineFault → List ℕ
line_fault_text fault.Words = codes "words"
line_fault_text fault.Torn = codes "torn"
line_fault_text fault.Full = codes "full"
line_fault_text fault.Stale = codes "stale"

-- the line of a fault of the line with this number
abbrev pub fault_line : ℕ → LineFault → List ℕ
fault_line number found = codes "! " ++ decimal number ++ codes " fault " ++ line_fault_text found

-- ---- calls

-- the entry of a call of a pass, with the table's reply
abbrev pub entry_in : Table → ℕ → Call → Entry
entry_in table pass call = record { pass = pass; call = call; reply = reply_of table call }

-- ---- requests that come again

-- the line that answered it, again; none where it waits
abbrev pub again_lines : RequestAnswer → List (List ℕ)
again_lines (Made e) = (codes "= " ++ entry_text e) ∷ []
again_lines (Cancelled found t) = (codes "= " ++ cancelled_line found t) ∷ []
again_lines Waits = []
