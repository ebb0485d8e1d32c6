pub mod LineShapes
pub mod ScenarioLines
pub mod ScenarioText
pub mod SceneText
pub mod ScriptReading
pub mod ScriptText
