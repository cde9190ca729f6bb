-- What the lister prints of document 01's cases 2, 1 and 5, and of the greatest number.
use mathlib.Core.Path.{◌≡◌, refl}
use mathlib.Core.List.{[], ◌∷◌, ◌++◌}
use Rattle.std.specs.Prelude.{Ok, Err}
use Rattle.job.specs.declared.fault.Fault.TheVariants.{Empty}
use Rattle.walk.specs.declared.state.Ending.TheVariants.{Complete}
use Rattle.lines.specs.Lines.{digits, decimal, spaced, line, entry_line, entry_lines, run_lines, lines_of}

-- `vars 0 2`, `5 1 2 0 1`, `complete 1 10`
pub case_2 : lines_of (Ok (record { ending = Complete; entries = 1; tests = 10 })) (0 ∷ 2 ∷ []) 5 (5 ∷ 1 ∷ 2 ∷ 0 ∷ 1 ∷ [])
    ≡ (118 ∷ 97 ∷ 114 ∷ 115 ∷ 32 ∷ 48 ∷ 32 ∷ 50 ∷ 10 ∷ [])
    ++ (53 ∷ 32 ∷ 49 ∷ 32 ∷ 50 ∷ 32 ∷ 48 ∷ 32 ∷ 49 ∷ 10 ∷ [])
    ++ (99 ∷ 111 ∷ 109 ∷ 112 ∷ 108 ∷ 101 ∷ 116 ∷ 101 ∷ 32 ∷ 49 ∷ 32 ∷ 49 ∷ 48 ∷ 10 ∷ [])
unfolding lines_of run_lines entry_lines entry_line line spaced decimal digits
case_2 = refl

-- `refused 11 0`
pub case_1 : lines_of (Err (record { fault = Empty; place = 0 })) [] 1 [] ≡ 114 ∷ 101 ∷ 102 ∷ 117 ∷ 115 ∷ 101 ∷ 100 ∷ 32 ∷ 49 ∷ 49 ∷ 32 ∷ 48 ∷ 10 ∷ []
unfolding lines_of line spaced decimal digits
case_1 = refl

-- `vars`, `2 0 0`, `complete 1 2`
pub case_5 : lines_of (Ok (record { ending = Complete; entries = 1; tests = 2 })) [] 3 (2 ∷ 0 ∷ 0 ∷ [])
    ≡ (118 ∷ 97 ∷ 114 ∷ 115 ∷ 10 ∷ [])
    ++ (50 ∷ 32 ∷ 48 ∷ 32 ∷ 48 ∷ 10 ∷ [])
    ++ (99 ∷ 111 ∷ 109 ∷ 112 ∷ 108 ∷ 101 ∷ 116 ∷ 101 ∷ 32 ∷ 49 ∷ 32 ∷ 50 ∷ 10 ∷ [])
unfolding lines_of run_lines entry_lines entry_line line spaced decimal digits
case_5 = refl

-- 4294967295
pub greatest : decimal 4294967295 ≡ 52 ∷ 50 ∷ 57 ∷ 52 ∷ 57 ∷ 54 ∷ 55 ∷ 50 ∷ 57 ∷ 53 ∷ []
unfolding decimal digits
greatest = refl
