-- What the batch program writes for a batch that it reads frame by frame: the text of each frame's answers, one behind the other.
use Rattle.std.specs.Prelude.{List, [], ◌++◌, ℕ, zero, suc, length, drop}
use Rattle.bits.specs.Pick.{pick}
use Rattle.model.specs.ByEdition.{Stated}
use Rattle.wording.specs.Text.{texts}
use Rattle.frames.specs.Frames.{frame_of, framed}
use Rattle.answers.specs.Answers.{After, over, plans, case_lines, case_after, plan_answers, more_of}

-- the plans, where these bytes of the batch are left; n bounds how many
unfoldable pub plans_text : Stated → ℕ → ℕ → List ℕ → List ℕ
plans_text x zero index rest = []
plans_text x (suc n) index rest =
    let frame = frame_of rest in
    texts (plan_answers x index frame (framed frame)) ++ pick (more_of (framed frame)) (plans_text x n (suc index) (drop (length frame) rest)) []

abbrev pub behind_case : After → ℕ → List ℕ → List ℕ
behind_case over n rest = []
behind_case (plans x) n rest = plans_text x n 1 rest

unfoldable pub stream_text : List ℕ → List ℕ
stream_text s =
    let frame = frame_of s in
    texts (case_lines frame (framed frame)) ++ behind_case (case_after frame (framed frame)) (length s) (drop (length frame) s)
