-- What a picture is written as.
use Rattle.std.specs.Prelude.{ℕ, List}
use Rattle.dine_lines.specs.declared.form.Form.{Form}
use Rattle.dine_lines.specs.declared.form.Form.TheVariants.{Svg, Page}
use Rattle.dine_chart.specs.declared.picture.Picture.{Picture}
use Rattle.dine_chart.specs.Page.{page_text}
use Rattle.dine_chart.specs.Svg.{svg_text}

-- the text of a picture
abbrev pub picture_text : Form → Picture → List ℕ
picture_text Svg p = svg_text p
picture_text Page p = page_text p
