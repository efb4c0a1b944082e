-- The text of a page: the picture, what moves it and tells of its bars, and a table of its lanes.
use Rattle.std.specs.Prelude.{ℕ, List, [], ◌++◌, codes, decimal, Option, Some, None}
use Rattle.std.specs.List.{flat_map}
use Rattle.dine_words.specs.declared.task.Task.{Task}
use Rattle.dine_words.specs.Texts.{task_text}
use Rattle.dine_bars.specs.declared.lane.Lane.{Lane}
use Rattle.dine_chart.specs.declared.picture.Picture.{Picture}
use Rattle.dine_chart.specs.Elements.{markup_name}
use Rattle.dine_chart.specs.Pieces.{numbered}
use Rattle.dine_chart.specs.Svg.{svg_text}

-- what stands before the picture
unfoldable pub page_opening : List ℕ
page_opening = codes "<!doctype html>\n<html lang=\"en\">\n<head>\n<meta charset=\"utf-8\">\n<meta name=\"viewport\" content=\"width=device-width\">\n<title>hygienic chart</title>\n<style>body{margin:16px;font:14px DejaVu Sans,Verdana,sans-serif;background:#fff;color:#111}svg{display:block;width:100%;height:auto;border:1px solid #ccc;cursor:grab;touch-action:none}svg [aria-label]:hover{stroke:#000;stroke-width:2}#tip{position:fixed;display:none;padding:3px 7px;background:#222;color:#fff;border-radius:3px;font-size:12px;pointer-events:none}table{border-collapse:collapse;margin-top:16px}th,td{padding:3px 10px;border-bottom:1px solid #ccc;text-align:right}th:first-child,td:first-child{text-align:left}@media(prefers-color-scheme:dark){body{background:#1b1b1b;color:#ddd}th,td,svg{border-color:#555}#tip{background:#eee;color:#111}}</style>\n</head>\n<body>\n<p>The wheel zooms, a drag moves, and a double click shows all. A bar tells what it is when it is pointed at.</p>\n"

-- the head of the table
unfoldable pub table_opening : List ℕ
table_opening = codes "<div id=\"tip\"></div>\n<table>\n<thead><tr><th>Name</th><th>Task</th><th>Joins at line</th><th>Leaves at line</th><th>Meals</th><th>Kept waiting</th></tr></thead>\n<tbody>\n"

-- the end of the table, and what lets the picture be moved. No text that somebody gives stands in it
unfoldable pub page_end : List ℕ
page_end = codes "</tbody>\n</table>\n<script>\n(function () {\n  var svg = document.querySelector('svg'), tip = document.getElementById('tip');\n  var all = svg.viewBox.baseVal, width = all.width, height = all.height, held = null;\n  svg.removeAttribute('width');\n  svg.removeAttribute('height');\n  svg.querySelectorAll('title').forEach(function (title) {\n    title.parentNode.setAttribute('aria-label', title.textContent);\n    title.remove();\n  });\n  function show(x, y, w) {\n    w = Math.min(width, Math.max(40, w));\n    var h = w * height / width;\n    x = Math.max(0, Math.min(width - w, x));\n    y = Math.max(0, Math.min(height - h, y));\n    svg.setAttribute('viewBox', [x, y, w, h].join(' '));\n  }\n  svg.addEventListener('wheel', function (event) {\n    event.preventDefault();\n    var box = svg.getBoundingClientRect(), view = svg.viewBox.baseVal;\n    var x = (event.clientX - box.left) / box.width, y = (event.clientY - box.top) / box.height;\n    var w = Math.min(width, Math.max(40, view.width * (event.deltaY > 0 ? 1.25 : 0.8)));\n    show(view.x + x * (view.width - w), view.y + y * (view.height - w * height / width), w);\n  }, { passive: false });\n  svg.addEventListener('pointerdown', function (event) {\n    var view = svg.viewBox.baseVal;\n    held = { x: event.clientX, y: event.clientY, left: view.x, top: view.y };\n  });\n  window.addEventListener('pointerup', function () { held = null; });\n  svg.addEventListener('pointermove', function (event) {\n    var box = svg.getBoundingClientRect(), view = svg.viewBox.baseVal;\n    if (held) {\n      show(held.left - (event.clientX - held.x) * view.width / box.width,\n           held.top - (event.clientY - held.y) * view.height / box.height, view.width);\n    }\n    var said = event.target.getAttribute('aria-label');\n    tip.style.display = said ? 'block' : 'none';\n    tip.style.left = event.clientX + 14 + 'px';\n    tip.style.top = event.clientY + 14 + 'px';\n    tip.textContent = said;\n  });\n  svg.addEventListener('pointerleave', function () { tip.style.display = 'none'; });\n  svg.addEventListener('dblclick', function () { show(0, 0, width); });\n}());\n</script>\n</body>\n</html>\n"

-- a task's name, and the task
unfoldable pub names_text : Picture → Task → List ℕ
names_text p t = codes "<tr><td>" ++ markup_name p t ++ codes "</td><td>" ++ task_text t

-- a number, if there is one
abbrev pub if_any : Option ℕ → List ℕ
if_any None = []
if_any (Some n) = decimal n

-- the numbers of a lane
unfoldable pub numbers_text : Lane → List ℕ
numbers_text lane =
    numbered (codes "</td><td>") lane.joined ++ (codes "</td><td>" ++ if_any lane.left)
    ++ numbered (codes "</td><td>") lane.meals ++ numbered (codes "</td><td>") lane.kept_waiting

-- the end of a row
unfoldable pub row_end : List ℕ
row_end = codes "</td></tr>\n"

-- the row of a lane
unfoldable pub row_text : Picture → Lane → List ℕ
row_text p lane = names_text p lane.task ++ numbers_text lane ++ row_end

-- the rows of lanes, one after the other
abbrev pub rows_text : Picture → List Lane → List ℕ
rows_text p lanes = flat_map (row_text p) lanes

-- the table
unfoldable pub table_text : Picture → List ℕ
table_text p = table_opening ++ rows_text p p.lanes.items

-- the page
unfoldable pub page_text : Picture → List ℕ
page_text p = page_opening ++ svg_text p ++ table_text p ++ page_end
